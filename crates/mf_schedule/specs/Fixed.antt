-- Interest of a period, and the least equal instalment.
use Rattle.std.specs.Prelude.{ℕ, zero, suc, ◌+◌, ◌-◌, ◌*◌, Bool, ◌==◌, if◌then◌else◌}
use Rattle.mf_base.specs.Rounding.{half_even}

-- the interest of a period of so many days, of a year of 360, at an annual rate in hundredths of a percent
abbrev pub interest_on : ℕ → ℕ → ℕ → ℕ
interest_on rate days balance = half_even (balance * rate * days) 3600000

-- what an instalment of so much leaves of a balance; it may leave nothing, but not less
abbrev pub next_balance : ℕ → ℕ → ℕ → ℕ → ℕ
next_balance rate days amount balance = balance + interest_on rate days balance - amount

-- what so many instalments leave of the principal
abbrev pub balance_after : ℕ → ℕ → ℕ → ℕ → ℕ → ℕ
balance_after rate days amount principal zero = principal
balance_after rate days amount principal (suc turns) =
    next_balance rate days amount (balance_after rate days amount principal turns)

-- the least number up to the bound that passes, or else the bound
unfoldable pub least : (ℕ → Bool) → ℕ → ℕ
least passes zero = zero
least passes (suc bound) =
    let low : ℕ = least passes bound in if passes low then low else suc bound

-- the least amount of which so many instalments leave nothing. Principal and interest of one period always do
abbrev pub least_amount : ℕ → ℕ → ℕ → ℕ → ℕ
least_amount rate days turns principal =
    least (λ amount. balance_after rate days amount principal turns == 0)
    (principal + interest_on rate days principal)
