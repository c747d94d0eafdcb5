-- What a report of arrears says of all that an office sees.
use Rattle.std.specs.Prelude.{ℕ, Bool, ◌==◌, List, [], ◌∷◌, filter}
use Rattle.mf_office.specs.Tree.{option_any}
use Rattle.mf_arrears.specs.Line.{OfficeLine}
use Rattle.mf_arrears.specs.Report.{total_of}
use Rattle.mf_model.specs.Arrears.{arrears_seen}
use Rattle.mf_model.specs.Institution.{Institution, Office, new_office}

-- the office's parent is office x
abbrev pub is_child_of : ℕ → Office → Bool
is_child_of x f = option_any f.parent (λ p. p == x)

-- the offices right below office x, by number
abbrev pub children : ℕ → List Office → List Office
children x fs = filter (is_child_of x) fs

-- the line of all in the report of arrears that office x is told
abbrev pub line_of_all : Institution → ℕ → OfficeLine
line_of_all i x = total_of (arrears_seen x i)

-- 2 and 20 under 1, and 5 under 2
abbrev pub worked_offices : List Office
worked_offices = new_office 2 1 [] ∷ new_office 5 2 [] ∷ new_office 20 1 [] ∷ []
