-- What a charge comes to.
use Rattle.std.specs.Prelude.{ℕ, ◌+◌, ◌*◌, Option, Some, None}
use Rattle.mf_base.specs.Rounding.{half_even}
use Rattle.mf_catalog.specs.declared.charge.ChargeDef.{ChargeDef}
use Rattle.mf_catalog.specs.declared.charge.Calc.{Calc}
use Rattle.mf_catalog.specs.declared.charge.Calc.TheVariants.{Flat, OfAmount, OfInterest, OfBoth}

-- what a percentage is taken of; a flat charge has no base
abbrev pub base_of : Calc → ℕ → ℕ → ℕ
base_of Flat amount interest = 0
base_of OfAmount amount interest = amount
base_of OfInterest amount interest = interest
base_of OfBoth amount interest = amount + interest

-- so many hundredths of a percent of a base, rounded half-even
abbrev pub percentage_of : ℕ → ℕ → ℕ
percentage_of base value = half_even (base * value) 10000

-- the value itself where it is flat, else that percentage of its base
abbrev pub amount_by : Calc → ℕ → ℕ → ℕ → ℕ
amount_by Flat value amount interest = value
amount_by OfAmount value amount interest = percentage_of amount value
amount_by OfInterest value amount interest = percentage_of interest value
amount_by OfBoth value amount interest = percentage_of (amount + interest) value

-- what a charge comes to on an amount and an interest
abbrev pub amount_of : ChargeDef → ℕ → ℕ → ℕ
amount_of charge amount interest = amount_by charge.calc charge.value amount interest

-- 0 where there is no charge
abbrev pub amount_of_any : Option ChargeDef → ℕ → ℕ → ℕ
amount_of_any None amount interest = 0
amount_of_any (Some charge) amount interest = amount_of charge amount interest
