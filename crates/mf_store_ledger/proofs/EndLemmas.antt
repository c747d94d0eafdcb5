-- The lines of a table, played page by page up to a business day.
use Rattle.std.proofs.Common.{◌≡◌, ℕ, ◌+◌, List, [], ◌++◌, map, take, drop, length, Some, Ok, Err}
use Rattle.std.proofs.Common.{refl, sym, ap, ◌∙◌, subst, arith, append-nil, append_assoc}
use Rattle.std.specs.Prelude.{Result, IfOk, OnOk}
use Rattle.std.proofs.lemmas.List.{take-append-drop, length-append}
use Rattle.sqlite.specs.Order.{Row}
use Rattle.sqlite.specs.State.{State, HasCleanDisk}
use Rattle.mf_base.specs.declared.fault.Fault.{Fault}
use Rattle.mf_journal.specs.declared.following.Head.{Head}
use Rattle.mf_model.specs.Institution.{Institution, JournalLine}
use Rattle.mf_model.specs.declared.store.InstitutionStore.{Ghosts}
use Rattle.mf_store_sql.specs.Numbered.{Filed, shown_filed}
use Rattle.mf_store_schema.specs.Schemas.{IsUnchangedUnder}
use Rattle.mf_store_journal.specs.Reading.{IsThird, IsKeeping, page_above, page_size}
use Rattle.mf_store_journal.specs.Rows.{filed_after, head_with_all, journal_rows_in}
use Rattle.mf_store_journal.specs.Written.{KeepsJournalFrom}
use Rattle.mf_store_journal.proofs.GoingLemmas.{still_unchanged, unchanged_itself, kept_after}
use Rattle.mf_play.specs.declared.stop.Stop.{Stop}
use Rattle.mf_store_journal.proofs.PageLemmas.{page_is, none_left, size_of_rows}
use Rattle.mf_portions_play.specs.Ends.{told_before, EndsLines, PlayBefore, StopsBefore}
use Rattle.mf_portions_play.proofs.EndsLemmas.{parted, plays_parted, stops_behind}
use Rattle.mf_store_ledger.specs.Movement.{EndsTable}

-- as long as the disk returned what was written, after lines that played or stopped, it did before them
pub premise_of : {S : Type 0} (store : Ghosts S) (until : ℕ) (lines : List JournalLine) (old new : S)
    (result : Result (Result (Unit {0}) (ℕ × Stop)) Fault) → IfOk result (EndsLines store until lines old new)
    → OnOk result (store.clean new → store.clean old)
premise_of store until lines old new (Ok r) ends = ends.premise
premise_of store until lines old new (Err fault) ends = tt

module _ {S : Type 0} (store : Ghosts S) (until : ℕ) where
  -- the first lines of these, as many as this, played as far as they come before the day, and the store stands for what
  -- they lead to by then
  pub record Reached (i : Institution) (lines : List JournalLine) (here : S) (number : ℕ) : Type 0 where
    pub done : List JournalLine
    pub rest : List JournalLine
    pub are : lines ≡ done ++ rest
    pub count : length done ≡ number
    pub plays : PlayBefore until i done
    pub stands : store.stands here (told_before until done i)

  -- the lines up to a number played
  pub record Going (old now : State) (before here : S) (number : ℕ) : Type 0 where
    pub kept : IsUnchangedUnder IsThird old now
    pub far : HasCleanDisk now → IsThird old.now.schema → store.clean here → (begins : Head)
        (lines : List JournalLine) → begins.number ≡ 0 → KeepsJournalFrom begins old.now.trees lines
        → (i : Institution) → store.stands before i → Reached i lines here number

  pub going_first : (s : State) (before : S) → Going s s before before 0
  going_first s before = record {
    kept = unchanged_itself s;
    far = λ clean its ok begins lines none keeps i stands.
        record { done = []; rest = lines; are = refl; count = refl; plays = tt; stands = stands };
  }

  module _ (old now new : State) (before here : S) (number : ℕ) (rows : List Row)
      (going : Going old now before here number) (kept : IsUnchangedUnder IsThird now new)
      (page : HasCleanDisk new → (lines : List Filed) → IsKeeping now lines → rows ≡ page_above number lines) where
    -- what the page is
    its_page : HasCleanDisk new → IsThird old.now.schema → (begins : Head) (lines : List JournalLine)
        → begins.number ≡ 0 → KeepsJournalFrom begins old.now.trees lines → (i : Institution)
        → (r : Reached i lines here number)
        → rows ≡ map shown_filed (filed_after (head_with_all begins r.done) (take page_size r.rest))
    its_page clean its begins lines none keeps i r =
        let all = page clean (journal_rows_in begins (Some lines)) (kept_after old now
        (journal_rows_in begins (Some lines)) going.kept (kept.premise clean)
        (record { schema_is = its; keeps = keeps.keeps })) in
        let count = r.count in
        all ∙ ap (λ ls. page_above number (journal_rows_in begins (Some ls))) r.are
        ∙ page_is begins r.done r.rest number (omega (arith, none, count))

    module _ (there : S) (early : store.clean there → store.clean here) where
      -- it plays, or is passed over
      pub going_on : (next : ℕ) → next ≡ number + length rows → ((h : Head) (lines : List JournalLine)
          → rows ≡ map shown_filed (filed_after h lines) → EndsLines store until lines here there (Ok tt))
          → Going old new before there next
      going_on next count ends = record {
        kept = still_unchanged old now new going.kept kept;
        far = λ clean its ok begins lines none keeps i stands.
            let r = going.far (kept.premise clean) its (early ok) begins lines none keeps i stands in
            let are = its_page clean its begins lines none keeps i r in
            let first = take page_size r.rest in
            let size = size_of_rows (head_with_all begins r.done) first rows are in
            let went = (ends (head_with_all begins r.done) first are).came ok (told_before until r.done i) r.stands in
            let whole : first ++ drop page_size r.rest ≡ r.rest = take-append-drop page_size r.rest in
            let both = length-append r.done first in
            let so_far = r.count in
            record {
              done = r.done ++ first;
              rest = drop page_size r.rest;
              are = r.are ∙ ap (λ ls. r.done ++ ls) (sym whole)
                  ∙ sym (append_assoc r.done first (drop page_size r.rest));
              count = omega (arith, both, size, count, so_far);
              plays = plays_parted until r.done first i r.plays went.1;
              stands = subst (store.stands there) (sym (parted until r.done first i)) went.0;
            };
      }

      -- a line of it doesn't
      pub going_stops : (place told : ℕ) (why : Stop) → told ≡ number + place + 1
          → ((h : Head) (lines : List JournalLine) → rows ≡ map shown_filed (filed_after h lines)
          → EndsLines store until lines here there (Err (place, why)))
          → EndsTable store until old new before there (Ok (Err (told, why)))
      going_stops place told why count ends clean its ok begins lines none keeps i stands =
          let r = going.far (kept.premise clean) its (early ok) begins lines none keeps i stands in
          let are = its_page clean its begins lines none keeps i r in
          let first = take page_size r.rest in
          let stops = (ends (head_with_all begins r.done) first are).came ok (told_before until r.done i) r.stands in
          let whole : first ++ drop page_size r.rest ≡ r.rest = take-append-drop page_size r.rest in
          let at = stops_behind until i r.done first (drop page_size r.rest) place why r.plays stops in
          let so_far = r.count in (
            length r.done + place,
            omega (arith, count, so_far),
            subst (λ ls. StopsBefore until i ls (length r.done + place) why)
                (ap (λ ls. r.done ++ ls) whole ∙ sym r.are) at,
          )

    -- none is left
    pub going_whole : rows ≡ [] → EndsTable store until old new before here (Ok (Ok tt))
    going_whole none_there clean its ok begins lines none keeps i stands =
        let r = going.far (kept.premise clean) its ok begins lines none keeps i stands in
        let are = its_page clean its begins lines none keeps i r in
        let over : r.rest ≡ [] = none_left (head_with_all begins r.done) r.rest (sym are ∙ none_there) in
        let all : r.done ≡ lines = sym (r.are ∙ ap (λ ls. r.done ++ ls) over ∙ append-nil r.done) in (
          subst (λ ls. store.stands here (told_before until ls i)) all r.stands,
          subst (PlayBefore until i) all r.plays,
        )
