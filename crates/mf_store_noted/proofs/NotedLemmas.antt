-- What writes and a line after them make of the tables of an institution that keeps a journal.
use Rattle.std.proofs.Common.{◌≡◌, ◌∙◌, true, List, [], ◌∷◌, ◌++◌, Option, Some, refl, sym, ap, subst}
use Rattle.mf_model.specs.Institution.{Institution, JournalLine, with_line}
use Rattle.mf_model.specs.Sound.{IsSound}
use Rattle.mf_journal.specs.Following.{Follows, line_of}
use Rattle.mf_journal.specs.declared.following.Head.{Head}
use Rattle.mf_journal.specs.declared.following.KeptRow.{KeptRow}
use Rattle.mf_store_sql.specs.Writes.{AllFit, after_all}
use Rattle.mf_store_schema.specs.Rows.{Lists}
use Rattle.mf_store_schema.specs.Writes.{after_write, are_some, FitsLists}
use Rattle.mf_store_schema.specs.declared.writes.StoreWrite.{StoreWrite}
use Rattle.mf_store_journal.specs.Noting.{FitsNoted, after_noted_write, journal_put}
use Rattle.mf_store_journal.specs.Rows.{filed_after, filed_beginning, filed_kept, filed_line, head_with, head_with_all}
use Rattle.mf_store_journal.specs.declared.noting.NotedWrite.{NotedWrite}
use Rattle.mf_store_journal.specs.declared.noting.NotedWrite.TheVariants.{Put, Begin, AddLine}
use Rattle.mf_store_journal.proofs.RowsLemmas.{rows_more}
use Rattle.mf_store_noted.specs.Becoming.{BecomesKept}
use Rattle.mf_store_noted.specs.Kept.{noted_with, rows_kept, tables_kept}
use Rattle.mf_store_noted.specs.Puts.{ArePuts, IsPut}

-- ---- the writes, and what stands after them

pub put_after : (put : NotedWrite) (write : StoreWrite) → IsPut put write → (lists : Option Lists)
    → after_noted_write put lists ≡ after_write write lists
put_after (Put w) write is lists = ap (λ x. after_write x lists) is
put_after (Begin head) write is lists = absurd is
put_after (AddLine kept) write is lists = absurd is

pub put_fits : (put : NotedWrite) (write : StoreWrite) → IsPut put write → (lists : Option Lists)
    → FitsLists write lists
    → FitsNoted put lists
put_fits (Put w) write is lists fits = subst (λ x. FitsLists x lists) (sym is) fits
put_fits (Begin head) write is lists fits = absurd is
put_fits (AddLine kept) write is lists fits = absurd is

pub puts_after : (puts more : List NotedWrite) (writes : List StoreWrite) → ArePuts puts writes → (lists : Option Lists)
    → after_all after_noted_write (puts ++ more) lists
    ≡ after_all after_noted_write more (after_all after_write writes lists)
puts_after [] more [] are lists = refl
puts_after [] more (write ∷ writes) are lists = absurd are
puts_after (put ∷ puts) more [] are lists = absurd are
puts_after (put ∷ puts) more (write ∷ writes) are lists =
    ap (after_all after_noted_write (puts ++ more)) (put_after put write are.0 lists)
    ∙ puts_after puts more writes are.1 (after_write write lists)

pub puts_fit : (puts more : List NotedWrite) (writes : List StoreWrite) → ArePuts puts writes → (lists : Option Lists)
    → AllFit after_write FitsLists writes lists
    → AllFit after_noted_write FitsNoted more (after_all after_write writes lists)
    → AllFit after_noted_write FitsNoted (puts ++ more) lists
puts_fit [] more [] are lists fits rest = rest
puts_fit [] more (write ∷ writes) are lists fits rest = absurd are
puts_fit (put ∷ puts) more [] are lists fits rest = absurd are
puts_fit (put ∷ puts) more (write ∷ writes) are lists fits rest = (
  put_fits put write are.0 lists fits.0,
  subst (AllFit after_noted_write FitsNoted (puts ++ more)) (sym (put_after put write are.0 lists))
      (puts_fit puts more writes are.1 (after_write write lists) fits.1 rest),
)

-- one more put
pub put_more : (puts : List NotedWrite) (writes : List StoreWrite) → ArePuts puts writes → (put : NotedWrite)
    (write : StoreWrite) → IsPut put write → ArePuts (puts ++ put ∷ []) (writes ++ write ∷ [])
put_more [] [] are put write is = (is, tt)
put_more [] (w ∷ ws) are put write is = absurd are
put_more (p ∷ ps) [] are put write is = absurd are
put_more (p ∷ ps) (w ∷ ws) are put write is = (are.0, put_more ps ws are.1 put write is)

-- ---- the line

-- the institution's journal has lines after which the journal that begins here stands so
abbrev pub StandsAt : Head → Institution → Head → Type 0
StandsAt begins i head = (lines : List JournalLine) × (i.journal ≡ Some lines) × (head ≡ head_with_all begins lines)

-- the row of a line that follows is the one that the journal has of it
row_of_line : (head : Head) (kept : KeptRow) → Follows head kept
    → filed_kept kept ≡ filed_line (head_with head (line_of kept)).number (line_of kept)
    (head_with head (line_of kept)).chain
row_of_line head kept follows = λ t. filed_line (follows.0 t) (line_of kept) (follows.2 t)

line_put : (begins : Head) (i : Institution) (head : Head) (kept : KeptRow) → StandsAt begins i head
    → Follows head kept → journal_put (filed_kept kept) (tables_kept (Some begins) i)
    ≡ tables_kept (Some begins) (noted_with (line_of kept) i)
line_put begins i head kept stands follows = λ t. record (tables_kept (Some begins) i) { journal = rows t }
  where
    lines : List JournalLine
    lines = stands.0

    line : JournalLine
    line = line_of kept

    row : filed_kept kept ≡ filed_line (head_with (head_with_all begins lines) line).number line
        (head_with (head_with_all begins lines) line).chain
    row = row_of_line head kept follows
        ∙ ap (λ h. filed_line (head_with h line).number line (head_with h line).chain) stands.2

    rows : rows_kept (Some begins) i.journal ++ filed_kept kept ∷ []
        ≡ rows_kept (Some begins) (with_line line i.journal)
    rows = ap (λ j. rows_kept (Some begins) j ++ filed_kept kept ∷ []) stands.1
        ∙ ap (λ r. filed_beginning begins ∷ (filed_after begins lines ++ r ∷ [])) row
        ∙ ap (λ rest. filed_beginning begins ∷ rest) (sym (rows_more begins lines line))
        ∙ ap (λ j. rows_kept (Some begins) (with_line line j)) (sym stands.1)

line_fits : (begins : Head) (i : Institution) (head : Head) → StandsAt begins i head
    → are_some (rows_kept (Some begins) i.journal) ≡ true
line_fits begins i head stands = ap (λ j. are_some (rows_kept (Some begins) j)) stands.1

-- ---- a commit

module _ (begins head : Head) (i j : Institution) (kept : KeptRow) (noted puts : List NotedWrite)
    (writes : List StoreWrite) (items : noted ≡ puts ++ AddLine kept ∷ []) (are : ArePuts puts writes)
    (b : BecomesKept (Some begins) writes i j) (stands : StandsAt begins j head) (follows : Follows head kept) where
  abbrev next : Institution
  next = noted_with (line_of kept) j

  pub next_sound : IsSound next
  next_sound = record { catalogue = b.sound.catalogue; tree = b.sound.tree; each = b.sound.each }

  pub fits : AllFit after_noted_write FitsNoted noted (Some (tables_kept (Some begins) i))
  fits = subst (λ ns. AllFit after_noted_write FitsNoted ns (Some (tables_kept (Some begins) i))) (sym items)
      (puts_fit puts (AddLine kept ∷ []) writes are (Some (tables_kept (Some begins) i)) b.fits
      (subst (AllFit after_noted_write FitsNoted (AddLine kept ∷ [])) (sym b.is)
      (line_fits begins j head stands, tt)))

  pub become : after_all after_noted_write noted (Some (tables_kept (Some begins) i))
      ≡ Some (tables_kept (Some begins) next)
  become = ap (λ ns. after_all after_noted_write ns (Some (tables_kept (Some begins) i))) items
      ∙ puts_after puts (AddLine kept ∷ []) writes are (Some (tables_kept (Some begins) i))
      ∙ ap (after_all after_noted_write (AddLine kept ∷ [])) b.is
      ∙ ap Some (line_put begins j head kept stands follows)
