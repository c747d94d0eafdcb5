-- Lines of a table that tell requests, page by page.
use Rattle.std.proofs.Common.{◌≡◌, ℕ, zero, suc, ◌+◌, List, [], ◌∷◌, ◌++◌, take, drop, length, Option, Some, None}
use Rattle.std.proofs.Common.{map, slice_get, refl, sym, ap, ◌∙◌, subst, arith, append-nil, append_assoc}
use Rattle.std.proofs.lemmas.List.{take-append-drop, length-append}
use Rattle.sqlite.specs.Order.{Row}
use Rattle.sqlite.specs.State.{State, HasCleanDisk}
use Rattle.mf_journal.specs.declared.following.Head.{Head}
use Rattle.mf_model.specs.Calls.{Call}
use Rattle.mf_model.specs.Institution.{JournalLine}
use Rattle.mf_store_sql.specs.Numbered.{Filed, shown_filed}
use Rattle.mf_store_schema.specs.Schemas.{IsUnchangedUnder}
use Rattle.mf_store_journal.specs.Reading.{IsThird, IsKeeping, page_above, page_size}
use Rattle.mf_store_journal.specs.Rows.{filed_after, head_with_all, journal_rows_in}
use Rattle.mf_store_journal.specs.Written.{KeepsJournalFrom}
use Rattle.mf_store_journal.proofs.GoingLemmas.{still_unchanged, unchanged_itself, kept_after}
use Rattle.mf_play.specs.Play.{TellsRequest, AllTellRequests, IsFirstUntold, call_told}
use Rattle.mf_store_journal.proofs.PageLemmas.{page_is, none_left, size_of_rows}
use Rattle.mf_store_told.specs.Told.{IsUntold}

-- ---- lines one behind the other

pub told_both : (xs ys : List JournalLine) → AllTellRequests xs → AllTellRequests ys → AllTellRequests (xs ++ ys)
told_both [] ys told more = more
told_both (x ∷ xs) ys told more = (told.0, told_both xs ys told.1 more)

-- so far behind lines
abbrev behind : List JournalLine → ℕ → ℕ
behind [] place = place
behind (l ∷ ls) place = suc (behind ls place)

behind_is : (lines : List JournalLine) (place : ℕ) → behind lines place ≡ length lines + place
behind_is [] place = omega arith
behind_is (l ∷ ls) place = let rest = behind_is ls place in omega (arith, rest)

-- the first that tells none, behind lines that tell requests
untold_behind : (done more : List JournalLine) (place : ℕ) → AllTellRequests done → IsFirstUntold more place
    → IsFirstUntold (done ++ more) (behind done place)
untold_behind [] more place told first = first
untold_behind (d ∷ ds) more place told first =
    let rest = untold_behind ds more place told.1 first in record {
      before = (told.0, rest.before);
      line = rest.line;
      there = rest.there;
      none = rest.none;
    }

-- and before others
untold_before : (lines more : List JournalLine) (place : ℕ) → IsFirstUntold lines place
    → IsFirstUntold (lines ++ more) place
untold_before [] more place first = let none : None ≡ Some first.line = first.there in absurd (cc)
untold_before (l ∷ ls) more zero first =
    record { before = tt; line = first.line; there = first.there; none = first.none }
untold_before (l ∷ ls) more (suc place) first =
    let rest = untold_before ls more place (record {
      before = first.before.1;
      line = first.line;
      there = first.there;
      none = first.none;
    }) in record {
      before = (first.before.0, rest.before);
      line = rest.line;
      there = rest.there;
      none = rest.none;
    }

-- lines with one that tells none don't all tell requests
one_untold : (lines : List JournalLine) (place : ℕ) (line : JournalLine) → slice_get lines place ≡ Some line
    → call_told line ≡ None → AllTellRequests lines → ⊥
one_untold [] place line there none told = let no : None ≡ Some line = there in absurd (cc)
one_untold (l ∷ ls) zero line there none told =
    let same : l ≡ line = cc in
    let some : call_told line ≡ Some told.0.0 = ap call_told (sym same) ∙ told.0.1 in
    let both : None ≡ Some told.0.0 = sym none ∙ some in absurd (cc)
one_untold (l ∷ ls) (suc place) line there none told = one_untold ls place line there none told.1

pub not_all_told : (after : ℕ) (lines : List JournalLine) (number : ℕ) → IsUntold after lines (Some number)
    → AllTellRequests lines → ⊥
not_all_told after lines number (place, is, first) told =
    one_untold lines place first.line first.there first.none told

-- ---- page by page

-- the first of these lines up to a number, the first of which comes after another one, tell requests
pub record Reached (after : ℕ) (lines : List JournalLine) (number : ℕ) : Type 0 where
  pub done : List JournalLine
  pub rest : List JournalLine
  pub are : lines ≡ done ++ rest
  pub count : after + length done ≡ number
  pub told : AllTellRequests done

-- the lines up to a number tell requests
pub record Going (after : ℕ) (old now : State) (number : ℕ) : Type 0 where
  pub kept : IsUnchangedUnder IsThird old now
  pub far : HasCleanDisk now → IsThird old.now.schema → (begins : Head) (lines : List JournalLine)
      → begins.number ≡ after → KeepsJournalFrom begins old.now.trees lines → Reached after lines number

pub going_first : (after : ℕ) (s : State) → Going after s s after
going_first after s = record {
  kept = unchanged_itself s;
  far = λ clean its begins lines none keeps. record {
    done = [];
    rest = lines;
    are = refl;
    count = omega arith;
    told = tt;
  };
}

module _ (after : ℕ) (old now new : State) (number : ℕ) (rows : List Row) (going : Going after old now number)
    (kept : IsUnchangedUnder IsThird now new)
    (page : HasCleanDisk new → (lines : List Filed) → IsKeeping now lines → rows ≡ page_above number lines) where
  -- what the page is
  its_page : HasCleanDisk new → IsThird old.now.schema → (begins : Head) (lines : List JournalLine)
      → begins.number ≡ after → KeepsJournalFrom begins old.now.trees lines → (r : Reached after lines number)
      → rows ≡ map shown_filed (filed_after (head_with_all begins r.done) (take page_size r.rest))
  its_page clean its begins lines none keeps r =
      let all = page clean (journal_rows_in begins (Some lines)) (kept_after old now
      (journal_rows_in begins (Some lines)) going.kept (kept.premise clean)
      (record { schema_is = its; keeps = keeps.keeps })) in
      let count = r.count in
      all ∙ ap (λ ls. page_above number (journal_rows_in begins (Some ls))) r.are
      ∙ page_is begins r.done r.rest number (omega (arith, none, count))

  -- each line of it tells a request
  pub going_on : (next : ℕ) → next ≡ number + length rows → ((h : Head) (lines : List JournalLine)
      → rows ≡ map shown_filed (filed_after h lines) → AllTellRequests lines) → Going after old new next
  going_on next count told = record {
    kept = still_unchanged old now new going.kept kept;
    far = λ clean its begins lines none keeps.
        let r = going.far (kept.premise clean) its begins lines none keeps in
        let are = its_page clean its begins lines none keeps r in
        let first = take page_size r.rest in
        let size = size_of_rows (head_with_all begins r.done) first rows are in
        let whole : first ++ drop page_size r.rest ≡ r.rest = take-append-drop page_size r.rest in
        let both = length-append r.done first in
        let so_far = r.count in
        record {
          done = r.done ++ first;
          rest = drop page_size r.rest;
          are = r.are ∙ ap (λ ls. r.done ++ ls) (sym whole) ∙ sym (append_assoc r.done first (drop page_size r.rest));
          count = omega (arith, both, size, count, so_far);
          told = told_both r.done first r.told (told (head_with_all begins r.done) first are);
        };
  }

  -- one of them tells none
  pub going_stops : (place found : ℕ) → found ≡ number + place + 1 → ((h : Head) (lines : List JournalLine)
      → rows ≡ map shown_filed (filed_after h lines) → IsFirstUntold lines place) → HasCleanDisk new
      → IsThird old.now.schema → (begins : Head) (lines : List JournalLine) → begins.number ≡ after
      → KeepsJournalFrom begins old.now.trees lines → IsUntold after lines (Some found)
  going_stops place found count untold clean its begins lines none keeps =
      let r = going.far (kept.premise clean) its begins lines none keeps in
      let are = its_page clean its begins lines none keeps r in
      let first = take page_size r.rest in
      let whole : first ++ drop page_size r.rest ≡ r.rest = take-append-drop page_size r.rest in
      let one = untold (head_with_all begins r.done) first are in
      let at = subst (IsFirstUntold (r.done ++ (first ++ drop page_size r.rest))) (behind_is r.done place)
      (untold_behind r.done (first ++ drop page_size r.rest) place r.told
      (untold_before first (drop page_size r.rest) place one)) in
      let so_far = r.count in (
        length r.done + place,
        omega (arith, count, so_far),
        subst (λ ls. IsFirstUntold ls (length r.done + place)) (ap (λ ls. r.done ++ ls) whole ∙ sym r.are) at,
      )

  -- none is left
  pub going_whole : rows ≡ [] → HasCleanDisk new → IsThird old.now.schema → (begins : Head) (lines : List JournalLine)
      → begins.number ≡ after → KeepsJournalFrom begins old.now.trees lines → IsUntold after lines None
  going_whole none_there clean its begins lines none keeps =
      let r = going.far (kept.premise clean) its begins lines none keeps in
      let are = its_page clean its begins lines none keeps r in
      let over : r.rest ≡ [] = none_left (head_with_all begins r.done) r.rest (sym are ∙ none_there) in
      let all : r.done ≡ lines = sym (r.are ∙ ap (λ ls. r.done ++ ls) over ∙ append-nil r.done) in
      subst AllTellRequests all r.told
