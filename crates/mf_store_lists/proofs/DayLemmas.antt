-- What was moved by the lines of a journal up to a number.
use Rattle.std.proofs.Common.{◌≡◌, ◌+◌, ◌≤◌, ℕ, suc, List, [], ◌∷◌, ◌++◌, map, filter, length, take, slice_get, Some}
use Rattle.std.proofs.Common.{refl, sym, ap, ◌∙◌, arith}
use Rattle.std.specs.List.{filter_map}
use Rattle.std.proofs.lemmas.List.{append-nil, append_assoc, length-append, map-append, take_all}
use Rattle.std.proofs.lemmas.List.Elements.{filter-append, filter_map-append}
use Rattle.sqlite.specs.Order.{Row}
use Rattle.mf_journal.specs.Chain.{line_of_row}
use Rattle.mf_journal.specs.declared.chain.JournalRow.{JournalRow}
use Rattle.mf_journal.specs.declared.following.Head.{Head}
use Rattle.mf_lists.specs.declared.takings.Movement.{Movement}
use Rattle.mf_lists.specs.declared.takings.Taking.{Taking}
use Rattle.mf_lists.specs.Takings.{is_of_day, moved, movements_on, takings_of, takings_on}
use Rattle.mf_model.specs.Institution.{Catalogue, JournalLine, Rows}
use Rattle.mf_office.specs.declared.caller.Caller.{Caller}
use Rattle.mf_store.specs.Sought.{AreNextRows}
use Rattle.mf_store_journal.proofs.PageLemmas.{size_of_rows, take_next}
use Rattle.mf_store_lists.specs.DayTold.{sought_on}

module _ (office day : ℕ) (k : Catalogue) (rows : Rows) where
  abbrev moves : List JournalLine → List (Caller × Movement)
  moves lines = movements_on office day k rows lines

  pub moves_more : (xs ys : List JournalLine) → moves (xs ++ ys) ≡ moves xs ++ moves ys
  moves_more xs ys =
      ap (filter_map (moved k rows)) (filter-append (is_of_day office day) xs ys)
      ∙ filter_map-append (moved k rows) (filter (is_of_day office day) xs) (filter (is_of_day office day) ys)

  -- the lines of rows up to a place, and the next one
  pub moves_next : (js : List JournalRow) (at : ℕ) (row : JournalRow) (before : List (Caller × Movement))
      → slice_get js at ≡ Some row
      → (before ++ moves (map line_of_row (take at js))) ++ moves (line_of_row row ∷ [])
      ≡ before ++ moves (map line_of_row (take (at + 1) js))
  moves_next js at row before there =
      let one : suc at ≡ at + 1 = omega arith in
      let first = map line_of_row (take at js) in
      let more : first ++ line_of_row row ∷ [] ≡ map line_of_row (take (at + 1) js) =
      sym (map-append line_of_row (take at js) (row ∷ []))
      ∙ ap (map line_of_row) (sym (take_next js at row there) ∙ ap (λ n. take n js) one) in
      append_assoc before (moves first) (moves (line_of_row row ∷ []))
      ∙ ap (λ ms. before ++ ms) (sym (moves_more first (line_of_row row ∷ [])) ∙ ap moves more)

  -- all lines of rows
  pub moves_all : (js : List JournalRow) (at : ℕ) (before : List (Caller × Movement)) → length js ≤ at
      → before ++ moves (map line_of_row (take at js)) ≡ before ++ moves (map line_of_row js)
  moves_all js at before past = ap (λ ls. before ++ moves (map line_of_row ls)) (take_all at js past)

  -- the lines up to a number were counted
  pub record CountedTo (begins : Head) (lines : List JournalLine) (number : ℕ) (takings : List Taking) : Type 0 where
    pub done : List JournalLine
    pub rest : List JournalLine
    pub are : lines ≡ done ++ rest
    pub count : begins.number + length done ≡ number
    pub taken : takings ≡ takings_of (moves done)

  -- before the first
  pub counted_none : (begins : Head) (lines : List JournalLine) (number : ℕ) (takings : List Taking)
      → number ≡ begins.number → takings ≡ [] → CountedTo begins lines number takings
  counted_none begins lines number takings is none = record {
    done = [];
    rest = lines;
    are = refl;
    count = omega (arith, is);
    taken = none;
  }

  module _ (begins : Head) (lines : List JournalLine) (number : ℕ) (takings : List Taking)
      (counted : CountedTo begins lines number takings) (later : ℕ) (page : List Row)
      (next : AreNextRows (sought_on office day) counted.rest number later page) where
    -- lines that aren't sought move nothing
    skipped_none : moves next.skipped ≡ []
    skipped_none = ap (filter_map (moved k rows)) next.none

    done_skipped : moves (counted.done ++ next.skipped) ≡ moves counted.done
    done_skipped = moves_more counted.done next.skipped ∙ ap (λ ms. moves counted.done ++ ms) skipped_none
        ∙ append-nil (moves counted.done)

    -- where no row is left, all is counted
    pub counted_all : page ≡ [] → takings ≡ takings_on office day k rows lines
    counted_all none =
        let over = next.last none in
        let all : lines ≡ counted.done ++ next.skipped =
        counted.are ∙ ap (λ ls. counted.done ++ ls) (next.are ∙ (λ t. next.skipped ++ (over.0 t ++ over.1 t))
        ∙ append-nil next.skipped) in
        counted.taken ∙ ap takings_of (sym (ap moves all ∙ done_skipped))

    -- the lines of the page are counted, too
    pub counted_on : (more : List Taking) (behind : ℕ) → more ≡ takings_of (moves counted.done ++ moves next.turn)
        → behind ≡ later + length page → CountedTo begins lines behind more
    counted_on more behind are is =
        let size = size_of_rows next.before next.turn page next.told in
        let both = length-append (counted.done ++ next.skipped) next.turn in
        let first = length-append counted.done next.skipped in
        let count = counted.count in
        let skips = next.count in
        record {
          done = (counted.done ++ next.skipped) ++ next.turn;
          rest = next.left;
          are = counted.are ∙ ap (λ ls. counted.done ++ ls) next.are
              ∙ sym (append_assoc counted.done next.skipped (next.turn ++ next.left))
              ∙ sym (append_assoc (counted.done ++ next.skipped) next.turn next.left);
          count = omega (arith, size, both, first, count, skips, is);
          taken = are ∙ ap takings_of (sym (moves_more (counted.done ++ next.skipped) next.turn
              ∙ ap (λ ms. ms ++ moves next.turn) done_skipped));
        }
