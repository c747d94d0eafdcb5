-- The lines of a table, played page by page.
use Rattle.std.proofs.Common.{◌≡◌, ℕ, zero, suc, ◌+◌, List, [], ◌∷◌, ◌++◌, map, take, drop, length, Some, Ok, Err}
use Rattle.std.proofs.Common.{refl, sym, ap, ◌∙◌, subst, arith, append-nil, append_assoc}
use Rattle.std.proofs.lemmas.List.{take-append-drop, length-append}
use Rattle.sqlite.specs.Order.{Row}
use Rattle.sqlite.specs.State.{State, HasCleanDisk}
use Rattle.mf_base.specs.declared.fault.Fault.{Fault}
use Rattle.mf_base.specs.declared.fault.Fault.TheVariants.{F20}
use Rattle.mf_journal.specs.declared.following.Head.{Head}
use Rattle.mf_model.specs.Institution.{Institution, JournalLine}
use Rattle.mf_model.specs.declared.store.InstitutionStore.{Ghosts}
use Rattle.mf_store_sql.specs.Numbered.{Filed, shown_filed}
use Rattle.mf_store_schema.specs.Schemas.{IsUnchangedUnder}
use Rattle.mf_store_journal.specs.Reading.{IsThird, IsKeeping, page_above, page_size}
use Rattle.mf_store_journal.specs.Rows.{filed_after, head_with_all, journal_rows_in}
use Rattle.mf_store_journal.specs.Written.{KeepsJournalFrom}
use Rattle.mf_store_journal.proofs.GoingLemmas.{still_unchanged, unchanged_itself, kept_after}
use Rattle.mf_play.specs.Play.{PlaysTo, StopsAt}
use Rattle.mf_play.specs.Playing.{PlaysLines}
use Rattle.mf_play.specs.declared.stop.Stop.{Stop}
use Rattle.mf_play.proofs.Lines.{StopsOn, stops_on, stops_at, joined}
use Rattle.mf_store_played.specs.Played.{PlaysTable}
use Rattle.mf_store_journal.proofs.PageLemmas.{page_is, none_left, size_of_rows}

-- ---- where lines stop

-- so far behind lines
abbrev behind : List JournalLine → ℕ → ℕ
behind [] place = place
behind (l ∷ ls) place = suc (behind ls place)

behind_is : (lines : List JournalLine) (place : ℕ) → behind lines place ≡ length lines + place
behind_is [] place = omega arith
behind_is (l ∷ ls) place = let rest = behind_is ls place in omega (arith, rest)

stops_behind : (i j : Institution) (done more : List JournalLine) (place : ℕ) (why : Stop) → PlaysTo i done j
    → StopsOn j more place why → StopsOn i (done ++ more) (behind done place) why
stops_behind i j [] more place why p s = subst (λ m. StopsOn m more place why) p s
stops_behind i j (d ∷ ds) more place why p s = (p.0, p.1, stops_behind p.0 j ds more place why p.2 s)

stops_before : (i : Institution) (lines more : List JournalLine) (place : ℕ) (why : Stop)
    → StopsOn i lines place why → StopsOn i (lines ++ more) place why
stops_before i [] more place why s = absurd s
stops_before i (l ∷ ls) more zero why s = s
stops_before i (l ∷ ls) more (suc place) why s = (s.0, s.1, stops_before s.0 ls more place why s.2)

-- in a page behind lines that play
pub stops_within : (i j : Institution) (done page more : List JournalLine) (place : ℕ) (why : Stop) → PlaysTo i done j
    → StopsAt j page place why → StopsAt i (done ++ (page ++ more)) (length done + place) why
stops_within i j done page more place why p s =
    subst (λ n. StopsAt i (done ++ (page ++ more)) n why) (behind_is done place)
    (stops_at i (done ++ (page ++ more)) (behind done place) why
    (stops_behind i j done (page ++ more) place why p
    (stops_before j page more place why (stops_on j page place why s))))

-- ---- page by page

module _ {S : Type 0} (store : Ghosts S) where
  -- the first of these lines up to a number, the first of which comes after another one, played from an institution,
  -- and the store stands for what follows
  pub record Reached (after : ℕ) (i : Institution) (lines : List JournalLine) (here : S) (number : ℕ) : Type 0 where
    pub done : List JournalLine
    pub rest : List JournalLine
    pub are : lines ≡ done ++ rest
    pub count : after + length done ≡ number
    pub reached : Institution
    pub plays : PlaysTo i done reached
    pub stands : store.stands here reached

  -- the lines up to a number played
  pub record Going (after : ℕ) (old now : State) (was here : S) (number : ℕ) : Type 0 where
    pub kept : IsUnchangedUnder IsThird old now
    pub far : HasCleanDisk now → IsThird old.now.schema → store.clean here → (begins : Head)
        (lines : List JournalLine) → begins.number ≡ after → KeepsJournalFrom begins old.now.trees lines
        → (i : Institution) → store.stands was i → Reached after i lines here number

  pub going_first : (after : ℕ) (s : State) (was : S) → Going after s s was was after
  going_first after s was = record {
    kept = unchanged_itself s;
    far = λ clean its ok begins lines none keeps i stands. record {
      done = [];
      rest = lines;
      are = refl;
      count = omega arith;
      reached = i;
      plays = refl;
      stands = stands;
    };
  }

  module _ (after : ℕ) (old now new : State) (was here : S) (number : ℕ) (rows : List Row)
      (going : Going after old now was here number) (kept : IsUnchangedUnder IsThird now new)
      (page : HasCleanDisk new → (lines : List Filed) → IsKeeping now lines → rows ≡ page_above number lines) where
    -- what the page is
    its_page : HasCleanDisk new → IsThird old.now.schema → (begins : Head) (lines : List JournalLine)
        → begins.number ≡ after → KeepsJournalFrom begins old.now.trees lines → (i : Institution)
        → (r : Reached after i lines here number)
        → rows ≡ map shown_filed (filed_after (head_with_all begins r.done) (take page_size r.rest))
    its_page clean its begins lines none keeps i r =
        let all = page clean (journal_rows_in begins (Some lines)) (kept_after old now
        (journal_rows_in begins (Some lines)) going.kept (kept.premise clean)
        (record { schema_is = its; keeps = keeps.keeps })) in
        let count = r.count in
        all ∙ ap (λ ls. page_above number (journal_rows_in begins (Some ls))) r.are
        ∙ page_is begins r.done r.rest number (omega (arith, none, count))

    module _ (there : S) (early : store.clean there → store.clean here) where
      -- it plays
      pub going_on : (next : ℕ) → next ≡ number + length rows → ((h : Head) (lines : List JournalLine)
          → rows ≡ map shown_filed (filed_after h lines) → PlaysLines store lines here there (Ok (Ok tt)))
          → Going after old new was there next
      going_on next count plays = record {
        kept = still_unchanged old now new going.kept kept;
        far = λ clean its ok begins lines none keeps i stands.
            let r = going.far (kept.premise clean) its (early ok) begins lines none keeps i stands in
            let are = its_page clean its begins lines none keeps i r in
            let first = take page_size r.rest in
            let size = size_of_rows (head_with_all begins r.done) first rows are in
            let came = (plays (head_with_all begins r.done) first are).came ok r.reached r.stands in
            let whole : first ++ drop page_size r.rest ≡ r.rest = take-append-drop page_size r.rest in
            let both = length-append r.done first in
            let so_far = r.count in
            record {
              done = r.done ++ first;
              rest = drop page_size r.rest;
              are = r.are ∙ ap (λ ls. r.done ++ ls) (sym whole)
                  ∙ sym (append_assoc r.done first (drop page_size r.rest));
              count = omega (arith, both, size, count, so_far);
              reached = came.0;
              plays = joined i r.reached came.0 r.done first r.plays came.1;
              stands = came.2;
            };
      }

      -- a line of it doesn't
      pub going_stops : (place told : ℕ) (why : Stop) → told ≡ number + place + 1 → ((h : Head)
          (lines : List JournalLine) → rows ≡ map shown_filed (filed_after h lines)
          → PlaysLines store lines here there (Ok (Err (place, why))))
          → PlaysTable store after old new was there (Ok (Err (told, why)))
      going_stops place told why count plays clean its ok begins lines none keeps i stands =
          let r = going.far (kept.premise clean) its (early ok) begins lines none keeps i stands in
          let are = its_page clean its begins lines none keeps i r in
          let first = take page_size r.rest in
          let stops = ((plays (head_with_all begins r.done) first are).came ok r.reached r.stands).0 in
          let whole : first ++ drop page_size r.rest ≡ r.rest = take-append-drop page_size r.rest in
          let at = stops_within i r.reached r.done first (drop page_size r.rest) place why r.plays stops in
          let so_far = r.count in (
            length r.done + place,
            omega (arith, count, so_far),
            subst (λ ls. StopsAt i ls (length r.done + place) why)
                (ap (λ ls. r.done ++ ls) whole ∙ sym r.are) at,
          )

    -- none is left
    pub going_whole : rows ≡ [] → PlaysTable store after old new was here (Ok (Ok tt))
    going_whole none_there clean its ok begins lines none keeps i stands =
        let r = going.far (kept.premise clean) its ok begins lines none keeps i stands in
        let are = its_page clean its begins lines none keeps i r in
        let over : r.rest ≡ [] = none_left (head_with_all begins r.done) r.rest (sym are ∙ none_there) in
        let all : r.done ≡ lines = sym (r.are ∙ ap (λ ls. r.done ++ ls) over ∙ append-nil r.done) in
        (r.reached, subst (λ ls. PlaysTo i ls r.reached) all r.plays, r.stands)

  -- none of the lines was played
  pub gave_up_first : (lines : List JournalLine) (was : S) (fault : Fault) → fault ≡ F20
      → PlaysLines store lines was was (Err fault)
  gave_up_first lines was fault is = record {
    premise = λ k. k;
    came = λ k i stands. (is, 0, i, none_taken lines i, stands);
  }
    where
      none_taken : (lines : List JournalLine) (i : Institution) → PlaysTo i (take 0 lines) i
      none_taken [] i = refl
      none_taken (l ∷ ls) i = refl
