-- The portions that may be waived: their names in requests, their numbers, and which portion each is.
use Rattle.std.specs.Prelude.{ℕ, List, [], ◌∷◌, codes}
use Rattle.mf_alloc.specs.declared.row.Portion.{Portion}
use Rattle.mf_alloc.specs.declared.row.Portion.TheVariants as portion
use Rattle.mf_model.specs.declared.waivable.Waivable.{Waivable}
use Rattle.mf_model.specs.declared.waivable.Waivable.TheVariants.{Penalties, Fees, Interest}

-- the name of what can be waived
abbrev pub waivable_name : Waivable → List ℕ
waivable_name Penalties = codes "penalties"
waivable_name Fees = codes "fees"
waivable_name Interest = codes "interest"

-- as tables number the portions
abbrev pub waivable_number : Waivable → ℕ
waivable_number Penalties = 1
waivable_number Fees = 2
waivable_number Interest = 3

-- what can be waived, in the order of the portions
abbrev pub waivables : List Waivable
waivables = Penalties ∷ Fees ∷ Interest ∷ []

-- the portion that is waived
abbrev pub portion_of : Waivable → Portion
portion_of Penalties = portion.Penalty
portion_of Fees = portion.Fee
portion_of Interest = portion.Interest
