-- How much a charge within the limits comes to at most.
use Rattle.std.proofs.Common.{ℕ, ◌+◌, ◌*◌, ◌/◌, ◌%◌, ◌≤◌, ◌^◌, Option, Some, None, ltb, arith, IfSome}
use Rattle.std.proofs.Math.Nat.{mul-le-mul_left, div-le_of_le-mul}
use Rattle.std.proofs.lemmas.Bool.{cond_both}
use Rattle.mf_base.specs.Rounding.{half_even}
use Rattle.mf_catalog.specs.declared.charge.ChargeDef.{ChargeDef}
use Rattle.mf_catalog.specs.declared.charge.Calc.{Calc}
use Rattle.mf_catalog.specs.declared.charge.Calc.TheVariants.{Flat, OfAmount, OfInterest, OfBoth}
use Rattle.mf_catalog.specs.Charge.{amount_by, amount_of_any, percentage_of}
use Rattle.mf_catalog.specs.Limits.{IsChargeWithinLimits, greatest_value}

-- rounding adds at most one to the quotient
half_even-le : (a d : ℕ) → half_even a d ≤ a / d + 1
half_even-le a d = cond_both (ltb d (2 * (a % d) + a / d % 2)) 1 0 (λ x. a / d + x ≤ a / d + 1) (λ _. omega arith)
    (λ _. omega arith)

-- a percentage is at most one cent above its base
percentage_of-le : (base value : ℕ) → value ≤ 10000 → percentage_of base value ≤ base + 1
percentage_of-le base value most =
    let grows : base * value ≤ base * 10000 = mul-le-mul_left base most in
    let quotient : base * value / 10000 ≤ base = div-le_of_le-mul 10000 (omega (arith, grows)) in
    omega (arith, quotient, half_even-le (base * value) 10000)

amount_by-le : (calc : Calc) (value amount interest : ℕ) → value ≤ greatest_value calc
    → amount_by calc value amount interest ≤ amount + interest + 10 ^ 12
amount_by-le Flat value amount interest most = omega arith
amount_by-le OfAmount value amount interest most = omega (arith, percentage_of-le amount value most)
amount_by-le OfInterest value amount interest most = omega (arith, percentage_of-le interest value most)
amount_by-le OfBoth value amount interest most = omega (arith, percentage_of-le (amount + interest) value most)

-- a charge is at most its bases and 10^12 cents
pub amount_of_any-le : (charge : Option ChargeDef) (amount interest : ℕ) → IfSome charge IsChargeWithinLimits
    → amount_of_any charge amount interest ≤ amount + interest + 10 ^ 12
amount_of_any-le None amount interest limits = omega arith
amount_of_any-le (Some charge) amount interest limits =
    amount_by-le charge.calc charge.value amount interest limits.most
