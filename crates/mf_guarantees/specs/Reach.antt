-- Whose requests a run holds.
use Rattle.std.specs.Prelude.{◌≡◌, ℕ, true, List, [], ◌∷◌}
use Rattle.mf_model.specs.Run.{Line, from_office}

-- each line of the run is sent by somebody of this office
abbrev pub AreFrom : ℕ → List Line → Type 0
AreFrom o [] = Unit {0}
AreFrom o (l ∷ ls) = (from_office o l.call ≡ true) × AreFrom o ls
