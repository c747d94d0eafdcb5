-- The index of a journal as lines are taken into it, and the rows that are read by it.
use Rattle.std.proofs.Common.{◌≡◌, ◌+◌, ◌≤◌, ℕ, zero, suc, List, [], ◌∷◌, ◌++◌, map, length, take, drop, Some}
use Rattle.std.proofs.Common.{slice_get, Result, IfErr, refl, sym, ap, ◌∙◌, subst, arith}
use Rattle.std.proofs.lemmas.List.{append_assoc, length-append, map-append, take-append-drop}
use Rattle.sqlite.specs.Order.{Row}
use Rattle.sqlite_trees.specs.declared.store.Store.{Ghosts}
use Rattle.mf_base.specs.declared.fault.Fault.{Fault}
use Rattle.mf_base.specs.declared.fault.Fault.TheVariants.{F20}
use Rattle.mf_journal.specs.Chain.{line_of_row}
use Rattle.mf_journal.specs.declared.chain.JournalRow.{JournalRow}
use Rattle.mf_journal.specs.declared.following.Head.{Head}
use Rattle.mf_model.specs.Institution.{Institution, JournalLine}
use Rattle.mf_store_sql.specs.Numbered.{shown_filed}
use Rattle.mf_store_journal.specs.Index.{AreOfFirst, IsNext, index_entry, index_of}
use Rattle.mf_store_journal.specs.Reading.{first_above, page_above, page_size}
use Rattle.mf_store_journal.specs.Rows.{filed_after, head_with_all, journal_rows_in}
use Rattle.mf_store_journal.specs.declared.index.IndexEntry.{IndexEntry}
use Rattle.mf_store_journal.specs.declared.index.Sought.{Sought}
use Rattle.mf_store_journal.specs.declared.journal.Journal.{Journal}
use Rattle.mf_store_journal.proofs.PageLemmas.{first_are, none_of, page_is, take_next}
use Rattle.mf_store_noted.specs.Kept.{IsJournalOf, begins_of}
use Rattle.mf_store.specs.Facts.{Facts, KnownStore, AreTrueOf}
use Rattle.mf_store.specs.Sought.{AreNextRows}
use Rattle.mf_store.specs.Stands.{StandsFor, IsClean, IsOpen, MayAskTables, Stays}
use Rattle.mf_store.proofs.KeptLemmas.{any_ok, learnt_asks}

-- ---- lines that are taken into the index

entries_of : List JournalRow → List IndexEntry
entries_of rows = map index_entry (map line_of_row rows)

entries_more : (xs ys : List JournalRow) → entries_of (xs ++ ys) ≡ entries_of xs ++ entries_of ys
unfolding entries_of
entries_more xs ys =
    ap (map index_entry) (map-append line_of_row xs ys)
    ∙ map-append index_entry (map line_of_row xs) (map line_of_row ys)

-- what is known stays so where the index has the first of some lines more
pub indexed_to : (f : Facts) (i : Institution) (rows : List JournalRow) (count : ℕ) → AreTrueOf f i
    → AreOfFirst (f.index ++ map index_entry (map line_of_row rows)) i.journal
    → AreTrueOf (record f { index = f.index ++ map index_entry (map line_of_row (take count rows)) }) i
unfolding entries_of
indexed_to f i rows count known first =
    let mine = entries_of (take count rows) in
    let others = entries_of (drop count rows) in
    let parts : entries_of rows ≡ mine ++ others =
    ap entries_of (sym (take-append-drop count rows)) ∙ entries_more (take count rows) (drop count rows) in
    record {
      counts = known.counts;
      catalogue = known.catalogue;
      day = known.day;
      roles = known.roles;
      keys = known.keys;
      products = known.products;
      accounts = known.accounts;
      index = (
        others ++ first.0,
        first.1 ∙ ap (λ es. (f.index ++ es) ++ first.0) parts
            ∙ ap (λ es. es ++ first.0) (sym (append_assoc f.index mine others))
            ∙ append_assoc (f.index ++ mine) others first.0,
      );
    }

-- the index of one line more
pub indexed_next : (entries : List IndexEntry) (rows : List JournalRow) (at : ℕ) (row : JournalRow)
    → slice_get rows at ≡ Some row
    → (entries ++ map index_entry (map line_of_row (take at rows))) ++ index_entry (line_of_row row) ∷ []
    ≡ entries ++ map index_entry (map line_of_row (take (at + 1) rows))
unfolding entries_of
indexed_next entries rows at row there =
    let one : suc at ≡ at + 1 = omega arith in
    append_assoc entries (entries_of (take at rows)) (entries_of (row ∷ []))
    ∙ ap (λ es. entries ++ es) (sym (entries_more (take at rows) (row ∷ []))
    ∙ ap entries_of (sym (take_next rows at row there) ∙ ap (λ n. take n rows) one))

pub indexed_step : (f was now : Facts) (rows : List JournalRow) (at : ℕ) (row : JournalRow)
    → slice_get rows at ≡ Some row
    → was ≡ record f { index = f.index ++ map index_entry (map line_of_row (take at rows)) }
    → now ≡ record was { index = was.index ++ index_entry (line_of_row row) ∷ [] }
    → now ≡ record f { index = f.index ++ map index_entry (map line_of_row (take (at + 1) rows)) }
indexed_step f was now rows at row there was_is now_is =
    now_is ∙ (λ t. record (was_is t) { index = (was_is t).index ++ index_entry (line_of_row row) ∷ [] })
    ∙ (λ t. record f { index = indexed_next f.index rows at row there t })

-- the lines that a page tells behind those of the index are the next of the journal
first_split : (entries behind : List IndexEntry) (lines : List JournalLine) → map index_entry lines ≡ entries ++ behind
    → (rest : List JournalLine) × (lines ≡ take (length entries) lines ++ rest)
    × (map index_entry (take (length entries) lines) ≡ entries)
    × (length (take (length entries) lines) ≡ length entries)
first_split [] behind lines are = (lines, refl, refl, refl)
first_split (e ∷ es) behind [] are = absurd (cc)
first_split (e ∷ es) behind (l ∷ ls) are =
    let head : index_entry l ≡ e = cc in
    let tail : map index_entry ls ≡ es ++ behind = cc in
    let so = first_split es behind ls tail in
    (so.0, ap (λ xs. l ∷ xs) so.1, (λ t. head t ∷ so.2 t), ap suc so.3)

pub indexed_page : (entries : List IndexEntry) (begins : Head) (lines : List JournalLine) (number : ℕ)
    (rows : List Row) (told : List JournalRow) → AreOfFirst entries (Some lines)
    → number ≡ begins.number + length entries → rows ≡ page_above number (journal_rows_in begins (Some lines))
    → ((h : Head) (ls : List JournalLine) → rows ≡ map shown_filed (filed_after h ls) → map line_of_row told ≡ ls)
    → AreOfFirst (entries ++ map index_entry (map line_of_row told)) (Some lines)
indexed_page entries begins lines number rows told first at shown tells =
    let so = first_split entries first.0 lines first.1 in
    let done = take (length entries) lines in
    let turn = take page_size so.0 in
    let left = drop page_size so.0 in
    let count : begins.number + length done ≡ number = let all = so.3 in omega (arith, all, at) in
    let are : map line_of_row told ≡ turn = tells (head_with_all begins done) turn
    (shown ∙ ap (λ ls. page_above number (journal_rows_in begins (Some ls))) so.1
    ∙ page_is begins done so.0 number count) in (
      map index_entry left,
      ap (map index_entry) (so.1 ∙ ap (λ ls. done ++ ls) (sym (take-append-drop page_size so.0)))
          ∙ map-append index_entry done (turn ++ left)
          ∙ ap (λ es. es ++ map index_entry (turn ++ left)) so.2
          ∙ ap (λ es. entries ++ es) (map-append index_entry turn left)
          ∙ sym (append_assoc entries (map index_entry turn) (map index_entry left))
          ∙ ap (λ ls. (entries ++ map index_entry ls) ++ map index_entry left) (sym are),
    )

module _ {S : Type 0} (g : Ghosts S) (old mid new : KnownStore S) (journal : Journal) (number : ℕ) (rows : List Row)
    (told : List JournalRow) (keeps : old.journal ≡ Some journal) (same : mid.known ≡ old.known)
    (at : number ≡ journal.begins.number + length old.known.index)
    (shown : IsClean g mid → (i : Institution) (begins : Head) (lines : List JournalLine) → StandsFor g old i
    → begins_of old.journal ≡ Some begins → i.journal ≡ Some lines
    → rows ≡ page_above number (journal_rows_in begins (Some lines)))
    (tells : (h : Head) (ls : List JournalLine) → rows ≡ map shown_filed (filed_after h ls)
    → map line_of_row told ≡ ls) where
  IsSo : Institution → Type 0
  IsSo i = AreOfFirst (mid.known.index ++ map index_entry (map line_of_row told)) i.journal

  is_so : IsClean g mid → (i : Institution) → StandsFor g old i → IsSo i
  unfolding IsSo
  is_so clean i s =
      let has = subst (λ j. IsJournalOf j i) keeps s.journal in
      let first = s.knows.index in
      let so = indexed_page old.known.index journal.begins has.0 number rows told
      (first.0, ap index_of (sym has.1) ∙ first.1) at
      (shown clean i journal.begins has.0 s (ap begins_of keeps) has.1) tells in (
        so.0,
        ap index_of has.1 ∙ so.1
            ∙ ap (λ (f : Facts). (f.index ++ map index_entry (map line_of_row told)) ++ so.0) (sym same),
      )

  -- a page is taken into the index
  pub indexed_asks : {R : Type 0} (r : Result R Fault) → Stays g old mid → (IsClean g mid → IsOpen g mid)
      → ((i : Institution) → StandsFor g mid i → AreOfFirst (mid.known.index
      ++ map index_entry (map line_of_row told)) i.journal → StandsFor g new i)
      → new.connection ≡ mid.connection → new.journal ≡ mid.journal → IfErr r (λ fault. fault ≡ F20)
      → MayAskTables g old new r
  unfolding IsSo
  indexed_asks r kept opened learns tables journals gives_up =
      let m = learnt_asks g {R = Unit {0}} {x = tt} old mid new IsSo kept (λ clean up. opened clean) learns tables
      journals is_so in
      record { kept = m.kept; gives_up = gives_up; stays_open = λ clean up. any_ok r _ (m.stays_open clean up) }

-- ---- rows that are read by it

pub next_rows_are : (s : Sought) (begins : Head) (done rest : List JournalLine) (number later most : ℕ)
    (rows : List Row) → begins.number + length done ≡ number → IsNext s rest number later → 1 ≤ most
    → rows ≡ first_above most later (journal_rows_in begins (Some (done ++ rest)))
    → AreNextRows s rest number later rows
next_rows_are s begins done rest number later zero rows at next some shown = absurd (omega (arith, some))
next_rows_are s begins done rest number later (suc more) rows at next some shown = record {
  skipped = next.skipped;
  turn = take (suc more) next.left;
  left = drop (suc more) next.left;
  are = next.are ∙ ap (λ ls. next.skipped ++ ls) (sym (take-append-drop (suc more) next.left));
  none = next.none;
  count = next.count;
  before = head_with_all begins before;
  told = told;
  last = λ none. let nothing = none_of more (head_with_all begins before) next.left (sym told ∙ none) in
      (ap (take (suc more)) nothing, ap (drop (suc more)) nothing);
}
  where
    before : List JournalLine
    before = done ++ next.skipped

    count : begins.number + length before ≡ later
    count =
        let size = length-append done next.skipped in
        let so = next.count in
        omega (arith, size, so, at)

    told : rows ≡ map shown_filed (filed_after (head_with_all begins before) (take (suc more) next.left))
    told = shown
        ∙ ap (λ ls. first_above (suc more) later (journal_rows_in begins (Some ls)))
        (ap (λ ls. done ++ ls) next.are ∙ sym (append_assoc done next.skipped next.left))
        ∙ first_are (suc more) begins before next.left later count
