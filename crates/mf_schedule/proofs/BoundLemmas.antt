-- How large the sums of a fresh schedule are at most.
use Rattle.std.proofs.Common.{ℕ, zero, suc, ◌+◌, ◌*◌, ◌<◌, ◌≤◌, ◌^◌, map, sum, add-one, subst, arith}
use Rattle.std.specs.List.{range_with_len}
use Rattle.mf_base.proofs.RoundingLemmas.{split-whole}
use Rattle.mf_catalog.specs.declared.terms.Terms.{Terms}
use Rattle.mf_catalog.specs.declared.terms.Method.{Method}
use Rattle.mf_catalog.specs.declared.terms.Method.TheVariants.{Flat, EqualPrincipal, Fixed}
use Rattle.mf_catalog.proofs.AmountLemmas.{amount_of_any-le}
use Rattle.mf_schedule.specs.Fresh.{IsLoanWithinLimits, fresh_schedule, instalment_of, total_interest, total_owed}
use Rattle.mf_schedule.specs.Plan.{days_of, equal_balance, fixed_balance, flat_interest, interest_by}
use Rattle.mf_schedule.proofs.LoanLemmas.{balance_by-le, days_of-le, flat_interest-le, interest_on-le}
use Rattle.mf_schedule.proofs.LoanLemmas.{scheduled-interest-sum, scheduled-principal-sum, sum_by-over}
use Rattle.mf_schedule.proofs.PlanLemmas.{sum_more}

-- a sum of terms that are each at most so much
sum-le : (f : ℕ → ℕ) (most k : ℕ) → ((i : ℕ) → f i ≤ most) → sum (map f (range_with_len 1 k)) ≤ most * k
sum-le f most zero each = omega arith
sum-le f most (suc k) each =
    subst (λ (x : ℕ). sum (map f (range_with_len 1 x)) ≤ most * x) (add-one k)
    (omega (arith, sum-le f most k each, sum_more f k, each (k + 1)))

-- all interest together, by each method
interest_by-sum-le : (method : Method) (terms : Terms) (principal n : ℕ) → IsLoanWithinLimits terms principal n
    → sum (map (interest_by method terms principal n) (range_with_len 1 n)) ≤ 2 * 10 ^ 13 * 360
interest_by-sum-le Flat terms principal n limits =
    omega (
      arith,
      split-whole (flat_interest terms principal n) n (omega arith),
      flat_interest-le terms principal n
          limits,
    )
interest_by-sum-le EqualPrincipal terms principal n limits =
    let each : (i : ℕ) → interest_by EqualPrincipal terms principal n i ≤ 2 * 10 ^ 13 = λ i.
    let less : equal_balance terms principal n i ≤ principal =
    balance_by-le EqualPrincipal terms principal n i limits in
    let small : equal_balance terms principal n i ≤ 10 ^ 12 = omega (arith, less, limits.most_principal) in
    interest_on-le terms.rate (days_of terms) (equal_balance terms principal n i) limits.terms_limits.rate
    (days_of-le terms limits.terms_limits) small in
    omega (arith, sum-le (interest_by EqualPrincipal terms principal n) (2 * 10 ^ 13) n each, limits.most_periods)
interest_by-sum-le Fixed terms principal n limits =
    let each : (i : ℕ) → interest_by Fixed terms principal n i ≤ 2 * 10 ^ 13 = λ i.
    let less : fixed_balance terms principal n i ≤ principal = balance_by-le Fixed terms principal n i limits in
    let small : fixed_balance terms principal n i ≤ 10 ^ 12 = omega (arith, less, limits.most_principal) in
    interest_on-le terms.rate (days_of terms) (fixed_balance terms principal n i) limits.terms_limits.rate
    (days_of-le terms limits.terms_limits) small in
    omega (arith, sum-le (interest_by Fixed terms principal n) (2 * 10 ^ 13) n each, limits.most_periods)

-- all interest of a schedule
pub scheduled_interest-le : (terms : Terms) (principal n day : ℕ) → IsLoanWithinLimits terms principal n
    → total_interest (fresh_schedule terms principal n day) ≤ 2 * 10 ^ 13 * 360
scheduled_interest-le terms principal n day limits =
    omega (
      arith,
      scheduled-interest-sum terms principal n day limits,
      interest_by-sum-le terms.method terms principal n
          limits,
    )

-- what a row owes is at most twice its principal and interest, and a flat charge
owed-le : (terms : Terms) (principal n day k : ℕ) → IsLoanWithinLimits terms principal n
    → sum (map (λ i. (instalment_of terms principal n day i).principal
    + (instalment_of terms principal n day i).interest + (instalment_of terms principal n day i).fees)
    (range_with_len 1 k)) ≤ 2 * sum (map (λ i. (instalment_of terms principal n day i).principal) (range_with_len 1 k))
    + 2 * sum (map (λ i. (instalment_of terms principal n day i).interest) (range_with_len 1 k)) + 10 ^ 12 * k
owed-le terms principal n day zero limits = omega arith
owed-le terms principal n day (suc k) limits =
    let row = instalment_of terms principal n day (k + 1) in
    let charged = amount_of_any-le terms.instalment row.principal row.interest limits.terms_limits.instalment in
    subst (λ (x : ℕ). sum (map (λ i. (instalment_of terms principal n day i).principal
    + (instalment_of terms principal n day i).interest + (instalment_of terms principal n day i).fees)
    (range_with_len 1 x)) ≤ 2 * sum (map (λ i. (instalment_of terms principal n day i).principal)
    (range_with_len 1 x)) + 2 * sum (map (λ i. (instalment_of terms principal n day i).interest)
    (range_with_len 1 x)) + 10 ^ 12 * x) (add-one k)
    (omega (
      arith,
      owed-le terms principal n day k limits,
      charged,
      sum_more (λ i. (instalment_of terms principal n day i).principal
          + (instalment_of terms principal n day i).interest + (instalment_of terms principal n day i).fees) k,
      sum_more (λ i. (instalment_of terms principal n day i).principal) k,
      sum_more (λ i. (instalment_of terms principal n day i).interest) k,
    ))

-- all that a schedule owes
pub scheduled_owed-le : (terms : Terms) (principal n day : ℕ) → IsLoanWithinLimits terms principal n
    → total_owed (fresh_schedule terms principal n day) < 2 ^ 54
scheduled_owed-le terms principal n day limits =
    omega (
      arith,
      owed-le terms principal n day n limits,
      limits.most_periods,
      limits.most_principal,
      sum_by-over (instalment_of terms principal n day) (λ row. row.principal + row.interest + row.fees) n,
      sum_by-over (instalment_of terms principal n day) (λ row. row.principal) n,
      sum_by-over (instalment_of terms principal n day) (λ row. row.interest) n,
      scheduled-principal-sum terms principal n day limits,
      scheduled_interest-le terms principal n day limits,
    )
