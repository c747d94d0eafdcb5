-- The fresh schedule of a loan.
use Rattle.std.specs.Prelude.{ℕ, ◌+◌, ◌*◌, ◌<◌, ◌≤◌, List, map, sum_by}
use Rattle.std.specs.List.{range_with_len}
use Rattle.mf_base.specs.Calendar.{day_after}
use Rattle.mf_catalog.specs.declared.terms.Terms.{Terms}
use Rattle.mf_catalog.specs.Charge.{amount_of_any}
use Rattle.mf_catalog.specs.Limits.{greatest_amount, most_periods, AreTermsWithinLimits}
use Rattle.mf_schedule.specs.Plan.{principal_of, interest_of, after_grace}
use Rattle.mf_schedule.specs.declared.instalment.FreshInstalment.{FreshInstalment}

-- due day i, always counted from the day of disbursement
abbrev pub due_day_of : Terms → ℕ → ℕ → ℕ
due_day_of terms day i = day_after day terms.freq (terms.every * i)

-- the interest of instalment i after the grace of interest
abbrev pub scheduled_interest : Terms → ℕ → ℕ → ℕ → ℕ
scheduled_interest terms principal n i = after_grace terms.interest_grace (interest_of terms principal n) i

-- the charge of an instalment is taken on its own principal and interest
abbrev pub instalment_of : Terms → ℕ → ℕ → ℕ → ℕ → FreshInstalment
instalment_of terms principal n day i =
    let part = principal_of terms principal n i in
    let interest = scheduled_interest terms principal n i in
    record {
      due = due_day_of terms day i;
      principal = part;
      interest = interest;
      fees = amount_of_any terms.instalment part interest;
    }

-- instalments 1 to n
abbrev pub fresh_schedule : Terms → ℕ → ℕ → ℕ → List FreshInstalment
fresh_schedule terms principal n day = map (instalment_of terms principal n day) (range_with_len 1 n)

-- the principal of all instalments
abbrev pub total_principal : List FreshInstalment → ℕ
total_principal rows = sum_by (λ row. row.principal) rows

-- the interest of all instalments
abbrev pub total_interest : List FreshInstalment → ℕ
total_interest rows = sum_by (λ row. row.interest) rows

-- principal, interest and fees of all rows
abbrev pub total_owed : List FreshInstalment → ℕ
total_owed rows = sum_by (λ row. row.principal + row.interest + row.fees) rows

-- the charge at disbursement, on the principal and the total interest
abbrev pub fee_at_disbursement : Terms → ℕ → List FreshInstalment → ℕ
fee_at_disbursement terms principal rows = amount_of_any terms.disbursement principal (total_interest rows)

-- what a schedule may be asked for: terms within the limits, and more periods than either grace
pub record IsLoanWithinLimits (terms : Terms) (principal n : ℕ) : Type 0 where
  pub terms_limits : AreTermsWithinLimits terms
  pub some_principal : 1 ≤ principal
  pub most_principal : principal ≤ greatest_amount
  pub most_periods : n ≤ most_periods
  pub principal_grace : terms.principal_grace < n
  pub interest_grace : terms.interest_grace < n
