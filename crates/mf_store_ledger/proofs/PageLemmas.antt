-- The lines of a table, played page by page, and the text of their transactions.
use Rattle.std.proofs.Common.{◌≡◌, ℕ, ◌+◌, List, [], ◌++◌, map, take, drop, length, Some, Ok, Err}
use Rattle.std.proofs.Common.{refl, sym, ap, ◌∙◌, subst, arith, append-nil, append_assoc}
use Rattle.std.specs.Prelude.{Result, IfOk, OnOk}
use Rattle.std.proofs.lemmas.List.{take-append-drop, length-append}
use Rattle.sqlite.specs.Order.{Row}
use Rattle.sqlite.specs.State.{State, HasCleanDisk}
use Rattle.mf_base.specs.declared.fault.Fault.{Fault}
use Rattle.mf_journal.specs.declared.following.Head.{Head}
use Rattle.mf_model.specs.Institution.{Institution, JournalLine}
use Rattle.mf_model.specs.declared.store.InstitutionStore.{Ghosts}
use Rattle.mf_store_sql.specs.Numbered.{Filed, shown_filed}
use Rattle.mf_store_schema.specs.Schemas.{IsUnchangedUnder}
use Rattle.mf_store_journal.specs.Reading.{IsThird, IsKeeping, page_above, page_size}
use Rattle.mf_store_journal.specs.Rows.{filed_after, head_with_all, journal_rows_in}
use Rattle.mf_store_journal.specs.Written.{KeepsJournalFrom}
use Rattle.mf_store_journal.proofs.GoingLemmas.{still_unchanged, unchanged_itself, kept_after}
use Rattle.mf_play.specs.Play.{PlaysTo, StopsAt}
use Rattle.mf_play.specs.declared.stop.Stop.{Stop}
use Rattle.mf_play.proofs.Lines.{joined}
use Rattle.mf_store_journal.proofs.PageLemmas.{page_is, none_left, size_of_rows}
use Rattle.mf_store_played.proofs.PlayLemmas.{stops_within}
use Rattle.mf_ledger_play.specs.Playing.{BooksLines, IsBooked}
use Rattle.mf_store_ledger.specs.Playing.{BooksTable}
use Rattle.mf_ledger_play.specs.declared.form.BooksAsked.{BooksAsked}
use Rattle.mf_ledger_play.proofs.LineLemmas.{more_booked, no_lines_booked}

-- as long as the disk returned what was written, after lines that played or stopped, it did before them
pub premise_of : {S : Type 0} (store : Ghosts S) (asked : BooksAsked) (n : ℕ) (lines : List JournalLine)
    (was now : List ℕ) (old new : S) (result : Result (Result (Unit {0}) (ℕ × Stop)) Fault)
    → IfOk result (BooksLines store asked n lines was now old new) → OnOk result (store.clean new → store.clean old)
premise_of store asked n lines was now old new (Ok r) books = books.premise
premise_of store asked n lines was now old new (Err fault) books = tt

module _ {S : Type 0} (store : Ghosts S) (asked : BooksAsked) where
  -- the first lines of these, as many as this, played from an institution, the store stands for what follows, and their
  -- transactions are written
  pub record Reached (i : Institution) (lines : List JournalLine) (here : S) (number : ℕ) (was text : List ℕ)
      : Type 0 where
    pub done : List JournalLine
    pub rest : List JournalLine
    pub are : lines ≡ done ++ rest
    pub count : length done ≡ number
    pub reached : Institution
    pub plays : PlaysTo i done reached
    pub stands : store.stands here reached
    pub booked : IsBooked asked 0 done i was text

  -- the lines up to a number played
  pub record Going (old now : State) (before here : S) (number : ℕ) (was text : List ℕ) : Type 0 where
    pub kept : IsUnchangedUnder IsThird old now
    pub far : HasCleanDisk now → IsThird old.now.schema → store.clean here → (begins : Head)
        (lines : List JournalLine) → begins.number ≡ 0 → KeepsJournalFrom begins old.now.trees lines
        → (i : Institution) → store.stands before i → Reached i lines here number was text

  pub going_first : (s : State) (before : S) (text : List ℕ) → Going s s before before 0 text text
  going_first s before text = record {
    kept = unchanged_itself s;
    far = λ clean its ok begins lines none keeps i stands. record {
      done = [];
      rest = lines;
      are = refl;
      count = refl;
      reached = i;
      plays = refl;
      stands = stands;
      booked = no_lines_booked asked 0 i text;
    };
  }

  module _ (old now new : State) (before here : S) (number : ℕ) (rows : List Row) (was text : List ℕ)
      (going : Going old now before here number was text) (kept : IsUnchangedUnder IsThird now new)
      (page : HasCleanDisk new → (lines : List Filed) → IsKeeping now lines → rows ≡ page_above number lines) where
    -- what the page is
    its_page : HasCleanDisk new → IsThird old.now.schema → (begins : Head) (lines : List JournalLine)
        → begins.number ≡ 0 → KeepsJournalFrom begins old.now.trees lines → (i : Institution)
        → (r : Reached i lines here number was text)
        → rows ≡ map shown_filed (filed_after (head_with_all begins r.done) (take page_size r.rest))
    its_page clean its begins lines none keeps i r =
        let all = page clean (journal_rows_in begins (Some lines)) (kept_after old now
        (journal_rows_in begins (Some lines)) going.kept (kept.premise clean)
        (record { schema_is = its; keeps = keeps.keeps })) in
        let count = r.count in
        all ∙ ap (λ ls. page_above number (journal_rows_in begins (Some ls))) r.are
        ∙ page_is begins r.done r.rest number (omega (arith, none, count))

    module _ (there : S) (early : store.clean there → store.clean here) where
      -- it plays
      pub going_on : (next : ℕ) (after : List ℕ) → next ≡ number + length rows → ((h : Head)
          (lines : List JournalLine) → rows ≡ map shown_filed (filed_after h lines)
          → BooksLines store asked number lines text after here there (Ok tt))
          → Going old new before there next was after
      going_on next after count books = record {
        kept = still_unchanged old now new going.kept kept;
        far = λ clean its ok begins lines none keeps i stands.
            let r = going.far (kept.premise clean) its (early ok) begins lines none keeps i stands in
            let are = its_page clean its begins lines none keeps i r in
            let first = take page_size r.rest in
            let size = size_of_rows (head_with_all begins r.done) first rows are in
            let went = (books (head_with_all begins r.done) first are).came ok r.reached r.stands in
            let whole : first ++ drop page_size r.rest ≡ r.rest = take-append-drop page_size r.rest in
            let both = length-append r.done first in
            let so_far = r.count in
            record {
              done = r.done ++ first;
              rest = drop page_size r.rest;
              are = r.are ∙ ap (λ ls. r.done ++ ls) (sym whole)
                  ∙ sym (append_assoc r.done first (drop page_size r.rest));
              count = omega (arith, both, size, count, so_far);
              reached = went.0;
              plays = joined i r.reached went.0 r.done first r.plays went.1;
              stands = went.2;
              booked = more_booked asked 0 number r.done first i r.reached was text after
                  (omega (arith, so_far)) r.plays r.booked went.3;
            };
      }

      -- a line of it doesn't
      pub going_stops : (place told : ℕ) (why : Stop) (after other : List ℕ) → told ≡ number + place + 1
          → ((h : Head) (lines : List JournalLine) → rows ≡ map shown_filed (filed_after h lines)
          → BooksLines store asked number lines text after here there (Err (place, why)))
          → BooksTable store asked old new before there was other (Ok (Err (told, why)))
      going_stops place told why after other count books clean its ok begins lines none keeps i stands =
          let r = going.far (kept.premise clean) its (early ok) begins lines none keeps i stands in
          let are = its_page clean its begins lines none keeps i r in
          let first = take page_size r.rest in
          let stops = (books (head_with_all begins r.done) first are).came ok r.reached r.stands in
          let whole : first ++ drop page_size r.rest ≡ r.rest = take-append-drop page_size r.rest in
          let at = stops_within i r.reached r.done first (drop page_size r.rest) place why r.plays stops in
          let so_far = r.count in (
            length r.done + place,
            omega (arith, count, so_far),
            subst (λ ls. StopsAt i ls (length r.done + place) why)
                (ap (λ ls. r.done ++ ls) whole ∙ sym r.are) at,
          )

    -- none is left
    pub going_whole : rows ≡ [] → BooksTable store asked old new before here was text (Ok (Ok tt))
    going_whole none_there clean its ok begins lines none keeps i stands =
        let r = going.far (kept.premise clean) its ok begins lines none keeps i stands in
        let are = its_page clean its begins lines none keeps i r in
        let over : r.rest ≡ [] = none_left (head_with_all begins r.done) r.rest (sym are ∙ none_there) in
        let all : r.done ≡ lines = sym (r.are ∙ ap (λ ls. r.done ++ ls) over ∙ append-nil r.done) in (
          r.reached,
          subst (λ ls. PlaysTo i ls r.reached) all r.plays,
          subst (λ ls. IsBooked asked 0 ls i was text) all r.booked,
        )
