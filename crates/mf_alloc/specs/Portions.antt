-- Portions by their names in requests and replies, and the numbers by which tables keep them, each from 1.
use Rattle.std.specs.Prelude.{ℕ, List, [], ◌∷◌, codes}
use Rattle.mf_alloc.specs.declared.row.Portion.{Portion}
use Rattle.mf_alloc.specs.declared.row.Portion.TheVariants.{Penalty, Fee, Interest, Principal}

-- the name of a portion
abbrev pub portion_name : Portion → List ℕ
portion_name Penalty = codes "penalties"
portion_name Fee = codes "fees"
portion_name Interest = codes "interest"
portion_name Principal = codes "principal"

-- the number of a portion
abbrev pub portion_number : Portion → ℕ
portion_number Penalty = 1
portion_number Fee = 2
portion_number Interest = 3
portion_number Principal = 4

-- the portions, in the order of their numbers
abbrev pub portions : List Portion
portions = Penalty ∷ Fee ∷ Interest ∷ Principal ∷ []
