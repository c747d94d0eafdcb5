-- Runs of a sheet's lines over a store, in the words of the institution that it stands for.
use Rattle.std.specs.Prelude.{◌≡◌, ◌≢◌, ℕ, false, List, [], ◌∷◌, map}
use Rattle.std.specs.List.{AllByRecursion}
use Rattle.mf_base.specs.declared.fault.Fault.TheVariants.{F20}
use Rattle.mf_office.specs.declared.caller.Caller.{Caller}
use Rattle.mf_model.specs.Institution.{Institution}
use Rattle.mf_model.specs.Run.{Line, answers, last, NoneGivenUp}
use Rattle.mf_model.specs.Sound.{AreInRange}
use Rattle.mf_model.specs.Store.{left_after}
use Rattle.mf_model.specs.declared.store.InstitutionStore.{Ghosts}
use Rattle.mf_desk.specs.Runs.{Calls}
use Rattle.mf_sheet_lines.specs.declared.results.SheetResult.{SheetResult}
use Rattle.mf_sheet_lines.specs.declared.results.SheetResult.TheVariants.{Refused}
use Rattle.mf_sheet.specs.Lines.{call_by, result_of}

-- none of the results is F20
abbrev pub NoResultIsF20 : List SheetResult → Type 0
NoResultIsF20 results = AllByRecursion (λ (r : SheetResult). r ≢ Refused F20) results

-- a line was given up only where its result is F20
abbrev pub OnlyF20GivesUp : List Line → List SheetResult → Type 0
OnlyF20GivesUp [] results = Unit {0}
OnlyF20GivesUp (l ∷ ls) [] = Unit {0}
OnlyF20GivesUp (l ∷ ls) (result ∷ results) = (result ≢ Refused F20 → l.given_up ≡ false) × OnlyF20GivesUp ls results

module _ {S : Type 0} (store : Ghosts S) (told : List ℕ) where
  -- the store answers a line of these fields with this result; this is told of it
  abbrev pub AnswersFields : Caller → S → List (List ℕ) → SheetResult → S → Type 0
  AnswersFields c old fields result new = Calls store (λ r. result ≡ result_of r) (call_by told c fields) old new

  -- The results are those of a run over the lines on the institution, and the store stands for what follows. Each call
  -- has its members in range, also that of a line which was given up. A line is given up only where its result is F20,
  -- so where none is, no line is.
  pub record RunsOn (c : Caller) (i : Institution) (rows : List (List (List ℕ))) (old : S) (results : List SheetResult)
      (new : S) : Type 0 where
    pub run : List Line
    pub calls : map (λ l. l.call) run ≡ map (call_by told c) rows
    pub in_range : AreInRange run
    pub replied : results ≡ map result_of (answers run i)
    pub follows : store.stands new (last run i)
    pub given_up : OnlyF20GivesUp run results
    pub with_memory : NoResultIsF20 results → NoneGivenUp run
    pub stop : (is : List Institution) → store.leaves old is → store.leaves new (left_after run i is)

  -- The same of each institution that the store stood for. That the disk returned what was written holds only as long
  -- as it does so to the end.
  pub record RunsRows (c : Caller) (old : S) (rows : List (List (List ℕ))) (results : List SheetResult)
      (new : S) : Type 0 where
    pub premise : store.clean new → store.clean old
    pub ran : store.clean new → (i : Institution) → store.stands old i → RunsOn c i rows old results new

-- lines answered one after another, whatever answers each
abbrev pub AnswersEach : {S : Type 0} → (S → List (List ℕ) → SheetResult → S → Type 0) → S → List (List (List ℕ))
    → List SheetResult → S → Type 0
AnswersEach step old [] [] new = new ≡ old
AnswersEach {S = S} step old (fields ∷ rows) (result ∷ results) new =
    (mid : S) × step old fields result mid × AnswersEach step mid rows results new
AnswersEach step old [] (result ∷ results) new = ⊥
AnswersEach step old (fields ∷ rows) [] new = ⊥
