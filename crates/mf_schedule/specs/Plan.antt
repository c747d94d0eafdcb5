-- Principal and interest of each instalment, by the three methods.
use Rattle.std.specs.Prelude.{ℕ, ◌+◌, ◌-◌, ◌*◌, ◌==◌, nat_le, min, if◌then◌else◌, map, sum}
use Rattle.std.specs.List.{range_with_len}
use Rattle.mf_base.specs.Rounding.{half_even, split}
use Rattle.mf_base.specs.declared.day.Freq.{Freq}
use Rattle.mf_base.specs.declared.day.Freq.TheVariants.{Weeks, Months}
use Rattle.mf_catalog.specs.declared.terms.Terms.{Terms}
use Rattle.mf_catalog.specs.declared.terms.Method.{Method}
use Rattle.mf_catalog.specs.declared.terms.Method.TheVariants.{Flat, EqualPrincipal, Fixed}
use Rattle.mf_schedule.specs.Fixed.{interest_on, balance_after, least_amount}

-- the days of a period: a week has 7, a month 30
abbrev pub days_by : Freq → ℕ → ℕ
days_by Weeks every = 7 * every
days_by Months every = 30 * every

-- the days of a period, by the terms
abbrev pub days_of : Terms → ℕ
days_of terms = days_by terms.freq terms.every

-- the interest of a period on a balance
abbrev pub period_interest : Terms → ℕ → ℕ
period_interest terms balance = interest_on terms.rate (days_of terms) balance

-- the interest of the whole term on the principal, rounded once
abbrev pub flat_interest : Terms → ℕ → ℕ → ℕ
flat_interest terms principal n = half_even (principal * terms.rate * days_of terms * n) 3600000

-- equal parts of the principal, over the instalments after the grace of principal
abbrev pub equal_principal : Terms → ℕ → ℕ → ℕ → ℕ
equal_principal terms principal n i =
    let grace = terms.principal_grace in
    if nat_le i grace then 0 else split principal (n - grace) (i - grace)

-- the principal less all parts before instalment i
abbrev pub equal_balance : Terms → ℕ → ℕ → ℕ → ℕ
equal_balance terms principal n i =
    principal - sum (map (equal_principal terms principal n) (range_with_len 1 (i - 1)))

-- the amount of the method Fixed: the least that leaves nothing after the instalments that follow the grace
abbrev pub fixed_amount_of : Terms → ℕ → ℕ → ℕ
fixed_amount_of terms principal n =
    least_amount terms.rate (days_of terms) (n - terms.principal_grace) principal

-- what the instalments before i leave; the whole principal up to the first one after the grace
abbrev pub fixed_balance : Terms → ℕ → ℕ → ℕ → ℕ
fixed_balance terms principal n i =
    balance_after terms.rate (days_of terms) (fixed_amount_of terms principal n) principal
    (i - 1 - terms.principal_grace)

-- the amount less the interest, and not more than there is
abbrev pub fixed_principal : Terms → ℕ → ℕ → ℕ → ℕ
fixed_principal terms principal n i =
    let balance = fixed_balance terms principal n i in
    if nat_le i terms.principal_grace then 0
    else min (fixed_amount_of terms principal n - period_interest terms balance) balance

-- principal of instalment i
abbrev pub principal_by : Method → Terms → ℕ → ℕ → ℕ → ℕ
principal_by Flat terms principal n i = equal_principal terms principal n i
principal_by EqualPrincipal terms principal n i = equal_principal terms principal n i
principal_by Fixed terms principal n i = fixed_principal terms principal n i

-- the principal of an instalment, by the method of the terms
abbrev pub principal_of : Terms → ℕ → ℕ → ℕ → ℕ
principal_of terms principal n i = principal_by terms.method terms principal n i

-- what is outstanding before instalment i
abbrev pub balance_by : Method → Terms → ℕ → ℕ → ℕ → ℕ
balance_by Flat terms principal n i = equal_balance terms principal n i
balance_by EqualPrincipal terms principal n i = equal_balance terms principal n i
balance_by Fixed terms principal n i = fixed_balance terms principal n i

-- the balance of an instalment, by the method of the terms
abbrev pub balance_of : Terms → ℕ → ℕ → ℕ → ℕ
balance_of terms principal n i = balance_by terms.method terms principal n i

-- interest of instalment i, before any grace of interest
abbrev pub interest_by : Method → Terms → ℕ → ℕ → ℕ → ℕ
interest_by Flat terms principal n i = split (flat_interest terms principal n) n i
interest_by EqualPrincipal terms principal n i = period_interest terms (equal_balance terms principal n i)
interest_by Fixed terms principal n i = period_interest terms (fixed_balance terms principal n i)

-- the interest of an instalment, by the method of the terms
abbrev pub interest_of : Terms → ℕ → ℕ → ℕ → ℕ
interest_of terms principal n i = interest_by terms.method terms principal n i

-- the instalments in grace have no interest, the next has the sum of theirs and its own, the others their own
abbrev pub after_grace : ℕ → (ℕ → ℕ) → ℕ → ℕ
after_grace grace interest i =
    if nat_le i grace then 0
    else (if i == grace + 1 then sum (map interest (range_with_len 1 i)) else interest i)
