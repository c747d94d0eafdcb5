-- Which institution a stop after a run of requests leaves.
use Rattle.std.specs.Prelude.{◌≡◌, ◌⊎◌, List, [], ◌∷◌, ◌++◌, Some, None, IsTrue, ⊤}
use Rattle.mf_model.specs.Institution.{Institution, Change, after_noted}
use Rattle.mf_model.specs.Desk.{outcome, change_in}
use Rattle.mf_model.specs.Run.{Line, change_of_line, noted_of, last}
use Rattle.mf_model.specs.Sound.{IsSound}
use Rattle.mf_store_noted.specs.Tabled.{HoldsRowsOf}
use Rattle.sqlite.specs.Tree.{Trees}

-- no line of the run changes the institution
abbrev pub NoneChanges : List Line → Institution → Type 0
NoneChanges [] i = ⊤
NoneChanges (l ∷ ls) i = (change_of_line l i ≡ None) × NoneChanges ls i

-- the institution after the change of a line that was given up, where no later line changed anything
pub record IsWithGivenUp (run : List Line) (i j : Institution) : Type 0 where
  pub before : List Line
  pub line : Line
  pub later : List Line
  pub parts : run ≡ before ++ line ∷ later
  pub given_up : IsTrue line.given_up
  pub unchanged : NoneChanges later (last before i)
  pub change : Change
  pub asked : change_in (outcome line.call (last before i)) ≡ Some change
  pub with_change : j ≡ after_noted (noted_of line.call (last before i)) change (last before i)

-- The institution after all changes of the run, so after those of each line that was answered; or with the change of
-- one line more, of those that were given up after the last change.
abbrev pub IsLeftBy : List Line → Institution → Institution → Type 0
IsLeftBy run i j = (j ≡ last run i) ⊎ IsWithGivenUp run i j

-- the trees hold the rows of such an institution, with its journal where it keeps one, and nothing else; and it is
-- sound
abbrev pub HoldsBeginning : List Line → Institution → Trees → Type 0
HoldsBeginning run i trees = (j : Institution) × IsLeftBy run i j × IsSound j × HoldsRowsOf trees j
