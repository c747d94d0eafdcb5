-- A sheet that is run twice in a row.
use Rattle.std.proofs.Common.{◌≡◌, ◌≢◌, ℕ, List, [], ◌∷◌, ◌++◌, map, append-nil, Option, Some, inl, inr, refl, sym, ap}
use Rattle.std.proofs.Common.{◌∙◌, subst}
use Rattle.std.specs.Prelude.{◌⊎◌}
use Rattle.mf_base.specs.declared.fault.Fault.TheVariants.{F20}
use Rattle.mf_office.specs.declared.caller.Caller.{Caller}
use Rattle.mf_model.specs.Institution.{Institution, Change, after_line, after_noted}
use Rattle.mf_model.specs.Desk.{outcome, reply, change_in}
use Rattle.mf_model.specs.Run.{Line, answers, last, next, noted_of, NoneGivenUp}
use Rattle.mf_model.specs.Answering.{line_answered, all_answered}
use Rattle.mf_model.specs.declared.store.InstitutionStore.{Ghosts}
use Rattle.mf_sheet_lines.specs.Lines.{sheet_line_of}
use Rattle.mf_sheet_lines.specs.declared.line.SheetLine.{SheetLine}
use Rattle.mf_sheet_lines.specs.declared.line.SheetLine.TheVariants.{Bad, Repay}
use Rattle.mf_sheet_lines.specs.declared.line.SheetRepayment.{SheetRepayment}
use Rattle.mf_sheet_lines.specs.declared.results.SheetResult.{SheetResult}
use Rattle.mf_sheet_lines.specs.declared.results.SheetResult.TheVariants.{Entered, Repeated, Refused}
use Rattle.mf_sheet.specs.Lines.{call_of_line, result_of}
use Rattle.mf_sheet.specs.Runs.{NoResultIsF20, RunsOn, RunsRows}
use Rattle.mf_sheet.specs.Ends.{SheetStreams, AreAllResults, EndsWhole}
use Rattle.mf_sheet.specs.Again.{sheet_lines, results_on, after_sheet, IsToldAgain, AreToldAgain}
use Rattle.mf_sheet.proofs.Judging.{judged, Entering, entered_change, judged_is, unless_entered, entered_so}
use Rattle.mf_sheet.proofs.Rows.{Rows}
use Rattle.mf_sheet.proofs.Again.{told_alike, told_thrice, never_entered, repeated_now, told_now}

-- what a line is told, and what becomes of the institution
abbrev told_on : Caller → SheetLine → Institution → SheetResult
told_on c line i = result_of (reply (call_of_line [] c line) i)

abbrev next_on : List ℕ → Caller → SheetLine → Institution → Institution
next_on told c line i = next (line_answered (call_of_line told c line)) i

entered_or_not : (t : SheetResult) → (t ≡ Entered) ⊎ (t ≢ Entered)
entered_or_not Entered = inl refl
entered_or_not Repeated = inr (λ e. cc)
entered_or_not (Refused fault) = inr (λ e. cc)

nothing_becomes : (told : List ℕ) (c : Caller) (line : SheetLine) (i : Institution) → told_on c line i ≢ Entered
    → next_on told c line i ≡ i
nothing_becomes told c Bad i n = refl
nothing_becomes told c (Repay r) i n =
    ap (λ (o : Option Change). after_line (noted_of (call_of_line told c (Repay r)) i) o i)
    (unless_entered c r i (λ e. n (judged_is c r i ∙ e)))

becomes : (told : List ℕ) (c : Caller) (r : SheetRepayment) (i : Institution) (w : Entering c r i)
    → change_in (outcome (call_of_line told c (Repay r)) i) ≡ Some (entered_change c r i w) → next_on told c (Repay r) i
    ≡ after_noted (noted_of (call_of_line told c (Repay r)) i) (entered_change c r i w) i
becomes told c r i w e = ap (λ (o : Option Change). after_line (noted_of (call_of_line told c (Repay r)) i) o i) e

-- a line that is sent again at once
told_at_once : (told : List ℕ) (c : Caller) (line : SheetLine) (i : Institution) → IsToldAgain (told_on c line i)
    (told_on c line (next_on told c line i))
told_at_once told c Bad i = told_alike (told_on c Bad i) (λ e. cc)
told_at_once told c (Repay r) i =
    elim (entered_or_not (judged c r i)) [
      | inl is ↦
          let s = entered_so c r i is in
          let again : told_on c (Repay r) (next_on told c (Repay r) i) ≡ Repeated = judged_is c r
          (next_on told c (Repay r) i)
          ∙ ap (judged c r) (becomes told c r i s.0 s.1) ∙ repeated_now c r i s.0 in
          subst (λ t. IsToldAgain t (told_on c (Repay r) (next_on told c (Repay r) i)))
          (sym (judged_is c r i ∙ is)) again
      | inr not ↦
          let no : told_on c (Repay r) i ≢ Entered = λ e. not (sym (judged_is c r i) ∙ e) in
          subst (λ j. IsToldAgain (told_on c (Repay r) i) (told_on c (Repay r) j))
          (sym (nothing_becomes told c (Repay r) i no)) (told_alike (told_on c (Repay r) i) no)
    ]

-- a line that is sent again after another
told_after_one : (told : List ℕ) (c : Caller) (line : SheetLine) (d : Caller) (other : SheetLine) (i : Institution)
    → told_on c line i
    ≢ Entered → IsToldAgain (told_on c line i) (told_on c line (next_on told d other i))
told_after_one told c Bad d other i n = told_alike (told_on c Bad i) n
told_after_one told c (Repay r) d Bad i n = told_alike (told_on c (Repay r) i) n
told_after_one told c (Repay r) d (Repay q) i n =
    elim (entered_or_not (judged d q i)) [
      | inl is ↦
          let s = entered_so d q i is in
          let still : IsToldAgain (judged c r i)
          (judged c r (after_noted (noted_of (call_of_line told d (Repay q)) i) (entered_change d q i s.0) i)) =
          told_now d q i s.0 c r (λ e. n (judged_is c r i ∙ e)) in
          subst (λ t. IsToldAgain t (told_on c (Repay r) (next_on told d (Repay q) i))) (sym (judged_is c r i)) (
          subst (IsToldAgain (judged c r i)) (sym (judged_is c r (next_on told d (Repay q) i)
          ∙ ap (judged c r) (becomes told d q i s.0 s.1))) still
          )
      | inr not ↦
          let no : told_on d (Repay q) i ≢ Entered = λ e. not (sym (judged_is d q i) ∙ e) in
          subst (λ j. IsToldAgain (told_on c (Repay r) i) (told_on c (Repay r) j))
          (sym (nothing_becomes told d (Repay q) i no)) (told_alike (told_on c (Repay r) i) n)
    ]

-- a line that is sent again after others
told_after_all : (told : List ℕ) (c : Caller) (line : SheetLine) (d : Caller) (rows : Rows) (t : SheetResult)
    (i : Institution)
    → IsToldAgain t (told_on c line i) → IsToldAgain t (told_on c line (after_sheet told d rows i))
told_after_all told c line d [] t i h = h
told_after_all told c line d (f ∷ rows) t i h =
    told_after_all told c line d rows t (next_on told d (sheet_line_of f) i) (told_thrice t (told_on c line i) _ h
    (told_after_one told c line d (sheet_line_of f) i (never_entered t (told_on c line i) h)))

-- what the lines are told, each at the same institution
abbrev all_told : Caller → Rows → Institution → List SheetResult
all_told c rows i = map (λ f. told_on c (sheet_line_of f) i) rows

told_in_the_end : (told : List ℕ) (c : Caller) (rows : Rows) (i : Institution) → AreToldAgain (results_on told c rows i)
    (all_told c rows (after_sheet told c rows i))
told_in_the_end told c [] i = tt
told_in_the_end told c (f ∷ rows) i =
    let j : Institution = next_on told c (sheet_line_of f) i in (
      told_after_all told c (sheet_line_of f) c rows (told_on c (sheet_line_of f) i) j
          (told_at_once told c (sheet_line_of f) i),
      told_in_the_end told c rows j,
    )

stays_so : (told : List ℕ) (c : Caller) (rows : Rows) (results : List SheetResult) (j : Institution)
    → AreToldAgain results (all_told c rows j) → (after_sheet told c rows j ≡ j)
    × (results_on told c rows j ≡ all_told c rows j)
stays_so told c [] results j h = (refl, refl)
stays_so told c (f ∷ rows) [] j h = absurd h
stays_so told c (f ∷ rows) (t ∷ results) j h =
    let same : next_on told c (sheet_line_of f) j ≡ j =
    nothing_becomes told c (sheet_line_of f) j (never_entered t (told_on c (sheet_line_of f) j) h.0) in
    let rest = stays_so told c rows results j h.1 in (
      ap (after_sheet told c rows) same ∙ rest.0,
      ap (λ ts. told_on c (sheet_line_of f) j ∷ ts) (ap (results_on told c rows) same
          ∙ rest.1),
    )

pub after_twice : (told also : List ℕ) (c : Caller) (rows : Rows) (i : Institution)
    → after_sheet also c rows (after_sheet told c rows i) ≡ after_sheet told c rows i
after_twice told also c rows i = (stays_so also c rows (results_on told c rows i) (after_sheet told c rows i)
    (told_in_the_end told c rows i)).0

pub told_twice : (told also : List ℕ) (c : Caller) (rows : Rows) (i : Institution)
    → AreToldAgain (results_on told c rows i) (results_on also c rows (after_sheet told c rows i))
told_twice told also c rows i =
    subst (AreToldAgain (results_on told c rows i)) (sym (stays_so also c rows (results_on told c rows i)
    (after_sheet told c rows i) (told_in_the_end told c rows i)).1) (told_in_the_end told c rows i)

-- no line of a run was given up: these are its lines
all_were_answered : (run : List Line) → NoneGivenUp run → run ≡ all_answered (map (λ l. l.call) run)
all_were_answered [] h = refl
all_were_answered (l ∷ ls) h = ap (λ g. record { call = l.call; given_up = g } ∷ ls) h.0
    ∙ ap (λ more. line_answered l.call ∷ more) (all_were_answered ls h.1)

module _ {S : Type 0} (store : Ghosts S) (told : List ℕ) (c : Caller) where
  its_lines : (i : Institution) (rows : Rows) (old new : S) (results : List SheetResult)
      (o : RunsOn store told c i rows old results new) → NoResultIsF20 results → o.run ≡ sheet_lines told c rows
  its_lines i rows old new results o none = all_were_answered o.run (o.with_memory none) ∙ ap all_answered o.calls

  pub ran_so : (i : Institution) (rows : Rows) (old new : S) (results : List SheetResult)
      → RunsOn store told c i rows old
      results new → NoResultIsF20 results → store.stands new (after_sheet told c rows i)
      × (results ≡ results_on told c rows i)
  ran_so i rows old new results o none =
      let lines = its_lines i rows old new results o none in (
        subst (λ ls. store.stands new (last ls i)) lines o.follows,
        o.replied ∙ ap (λ ls. map result_of (answers ls i))
            lines,
      )

  -- where no result is F20, all lines were run
  all_done : (rest : Rows) (results : List SheetResult) → AreAllResults rest results → NoResultIsF20 results → rest ≡ []
  all_done rest results (inl a) none = a.0
  all_done rest results (inr e) none = absurd (last_is (e.0) (subst NoResultIsF20 e.1 none))
    where
      last_is : (front : List SheetResult) → NoResultIsF20 (front ++ Refused F20 ∷ []) → ⊥
      last_is [] n = n.0 refl
      last_is (t ∷ front) n = last_is front n.1

  whole_run : (old new : S) (streams : SheetStreams) (e : EndsWhole (RunsRows store told c) old new streams)
      → NoResultIsF20 e.results → RunsRows store told c old streams.rows e.results new
  whole_run old new streams e none =
      let rest : e.rest ≡ [] = all_done e.rest e.results e.all none in
      subst (λ rows. RunsRows store told c old rows e.results new) (sym (e.among ∙ ap (λ more. e.done ++ more) rest
      ∙ append-nil e.done)) e.ran

module _ {S : Type 0} (store : Ghosts S) (told also : List ℕ) (c : Caller) where
  pub acts_once : (old mid new : S) (first second : SheetStreams) → second.rows ≡ first.rows
      → (one : EndsWhole (RunsRows store told c) old mid first) (two : EndsWhole (RunsRows store also c) mid new second)
      → NoResultIsF20 one.results → NoResultIsF20 two.results → store.clean new → (i : Institution) → store.stands old i
      → store.stands new (after_sheet told c first.rows i) × AreToldAgain one.results two.results
  acts_once old mid new first second same one two none none_again good i h =
      let ran = whole_run store told c old mid first one none in
      let again : RunsRows store also c mid first.rows two.results new =
      subst (λ rows. RunsRows store also c mid rows two.results new) same
      (whole_run store also c mid new second two none_again) in
      let then = ran_so store told c i first.rows old mid one.results (ran.ran (again.premise good) i h) none in
      let now = ran_so store also c (after_sheet told c first.rows i) first.rows mid new two.results
      (again.ran good (after_sheet told c first.rows i) then.0) none_again in (
        subst (store.stands new) (after_twice told also c first.rows i) now.0,
        subst (λ ts. AreToldAgain ts two.results) (sym then.1) (subst (AreToldAgain (results_on told c first.rows i))
            (sym now.1) (told_twice told also c first.rows i)),
      )
