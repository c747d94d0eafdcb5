-- What writes, alone or with a line after them, make of the tables of an institution.
use Rattle.std.proofs.Common.{◌≡◌, ◌∙◌, List, [], ◌∷◌, ◌++◌, None, Some, sym, ap, subst}
use Rattle.mf_model.specs.Institution.{Institution, JournalLine, with_line}
use Rattle.mf_journal.specs.Following.{Follows, kept_at, line_of}
use Rattle.mf_journal.specs.declared.chain.JournalRow.{JournalRow}
use Rattle.mf_journal.specs.declared.following.Head.{Head}
use Rattle.mf_store_schema.specs.Writes.{after_write, FitsLists}
use Rattle.mf_store_schema.specs.declared.writes.StoreWrite.{StoreWrite}
use Rattle.mf_store_journal.specs.Noting.{FitsNoted, after_noted_write}
use Rattle.mf_store_journal.specs.Rows.{HasPlace, head_with}
use Rattle.mf_store_journal.specs.Written.{CanBeLines}
use Rattle.mf_store_journal.specs.declared.noting.NotedWrite.{NotedWrite}
use Rattle.mf_store_journal.specs.declared.noting.NotedWrite.TheVariants.{AddLine}
use Rattle.mf_store_journal.proofs.RowsLemmas.{head_more}
use Rattle.mf_store_noted.specs.Becoming.{BecomesKept}
use Rattle.mf_store_noted.specs.Kept.{IsJournalOf, noted_with, tables_kept}
use Rattle.mf_store_noted.specs.Puts.{ArePuts}
use Rattle.mf_store_noted.specs.Writing.{with_line_after}
use Rattle.mf_store_journal.specs.declared.journal.Journal.{Journal}
use Rattle.mf_store_noted.proofs.MakesLemmas.{Turn}
use Rattle.mf_store_noted.proofs.NotedLemmas.{StandsAt, become, fits}
use Rattle.mf_store_noted.proofs.CanBeLemmas.{can_more}

-- without a journal no line is noted
pub turn_alone : (writes : List StoreWrite) (line : JournalLine) (i j : Institution) → IsJournalOf None i
    → BecomesKept None writes i j → Turn after_write FitsLists writes None None writes line i j
turn_alone writes line i j none b = record {
  fits = b.fits;
  become = b.is;
  begun = ap (with_line line) none;
  stands = ap (with_line line) none;
}

module _ (journal : Journal) (head : Head) (row : JournalRow) (noted puts : List NotedWrite)
    (writes : List StoreWrite) (items : noted ≡ puts ++ AddLine (kept_at head row) ∷ []) (are : ArePuts puts writes)
    (follows : Follows journal.head (kept_at head row)) (day : head.day ≡ row.day) (room : HasPlace (kept_at head row))
  where
    abbrev line : JournalLine
    line = line_of (kept_at head row)

    module _ (i j : Institution) (before : IsJournalOf (Some journal) i)
        (b : BecomesKept (Some journal.begins) writes i j) where
      stands : StandsAt journal.begins j journal.head
      stands = (before.0, b.same_journal ∙ before.1, before.2.stands)

      -- the line is put at the end of the journal of before
      same_line : noted_with line j ≡ with_line_after line i j
      same_line = λ t. record j { journal = with_line line (b.same_journal t) }

      head_is : head ≡ head_with journal.head line
      head_is = λ t. record { number = follows.0 t; day = day t; chain = follows.2 t }

      can : CanBeLines journal.begins (before.0 ++ line ∷ [])
      can = can_more journal.begins before.0 (kept_at head row) before.2.can_be
          (subst (λ (h : Head). Follows h (kept_at head row)) before.2.stands follows) room

      pub turn_with_line : Turn after_noted_write FitsNoted noted (Some journal) (Some (record {
        begins = journal.begins;
        head = head;
      })) writes line i j
      turn_with_line = record {
        fits = fits journal.begins journal.head i j (kept_at head row) noted puts writes items are b stands follows;
        become = become journal.begins journal.head i j (kept_at head row) noted puts writes items are b stands follows
            ∙ ap (λ k. Some (tables_kept (Some journal.begins) k)) same_line;
        begun = (before.0 ++ line ∷ [], ap (with_line line) before.1, can);
        stands = (
          before.0 ++ line ∷ [],
          ap (with_line line) before.1,
          record {
            can_be = can;
            stands = head_is ∙ ap (λ h. head_with h line) before.2.stands
                ∙ sym (head_more journal.begins before.0 line);
          },
        );
      }
