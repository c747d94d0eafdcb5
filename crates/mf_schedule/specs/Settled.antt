-- What the methods settle once for all instalments.
use Rattle.std.specs.Prelude.{ℕ, ◌≡◌}
use Rattle.mf_catalog.specs.declared.terms.Terms.{Terms}
use Rattle.mf_catalog.specs.declared.terms.Method.TheVariants.{Flat, EqualPrincipal, Fixed}
use Rattle.mf_schedule.specs.Plan.{flat_interest, fixed_amount_of}
use Rattle.mf_schedule.specs.declared.plan.Plan.{Plan}
use Rattle.mf_schedule.specs.declared.plan.Plan.TheVariants.{FlatInterest, EqualParts, FixedAmount}

-- the plan is that of the method
abbrev pub IsPlanOf : Terms → ℕ → ℕ → Plan → Type 0
IsPlanOf terms principal n (FlatInterest total) = (terms.method ≡ Flat) × (total ≡ flat_interest terms principal n)
IsPlanOf terms principal n EqualParts = terms.method ≡ EqualPrincipal
IsPlanOf terms principal n (FixedAmount amount) = (terms.method ≡ Fixed) × (amount ≡ fixed_amount_of terms principal n)
