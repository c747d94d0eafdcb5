use Rattle.std.proofs.Common.{◌≡◌, ◌<◌, ℕ, zero, suc, arith}
use Rattle.std.specs.Prelude.{slice_index, sum_by, pos, neg_ℤ, ◌+ℤ◌}
use Rattle.std.proofs.lemmas.Int.{ints}
use Rattle.mf_model.specs.Accounts.{balances_in}
use Rattle.mf_model.specs.Institution.{Catalogue, Ledger, Office}
use Rattle.mf_ledger.specs.Accrual.{accrued_in, office_accrued, receivable_of, waived_of, written_off_of, income_of}
use Rattle.mf_ledger.specs.Runs.{everything, office_balance}
use Rattle.mf_ledger.proofs.TieLemmas.{sum-pos, sum-neg, due-most, due-all, unpaid-sums}
use Rattle.mf_ledger.proofs.laws.accruals_tie_to_the_loans.Goals as goal

pub returns-clause-at_most : goal.returns-clause-at_most
returns-clause-at_most c = λ day p rows. due-most day p rows

pub returns-clause-all_due : goal.returns-clause-all_due
returns-clause-all_due c = λ day p rows all. due-all day p rows all

receivable : (day p : ℕ) (k : Catalogue) (office : Office) → p < 3
    → office_accrued (receivable_of p) everything day k office
    ≡ pos (sum_by (λ (l : Ledger). slice_index (accrued_in day k l).due p) office.rows.loans)
receivable day zero k office h = sum-pos (λ (l : Ledger). slice_index (accrued_in day k l).due 0) office.rows.loans
receivable day (suc zero) k office h =
    sum-pos (λ (l : Ledger). slice_index (accrued_in day k l).due 1) office.rows.loans
receivable day (suc (suc zero)) k office h =
    sum-pos (λ (l : Ledger). slice_index (accrued_in day k l).due 2) office.rows.loans
receivable day (suc (suc (suc p))) k office h = absurd (omega (arith, h))

waived : (day p : ℕ) (k : Catalogue) (office : Office) → p < 3
    → office_accrued (waived_of p) everything day k office
    ≡ pos (sum_by (λ (l : Ledger). slice_index (balances_in k l).waived p) office.rows.loans)
waived day zero k office h = sum-pos (λ (l : Ledger). slice_index (balances_in k l).waived 0) office.rows.loans
waived day (suc zero) k office h = sum-pos (λ (l : Ledger). slice_index (balances_in k l).waived 1) office.rows.loans
waived day (suc (suc zero)) k office h =
    sum-pos (λ (l : Ledger). slice_index (balances_in k l).waived 2) office.rows.loans
waived day (suc (suc (suc p))) k office h = absurd (omega (arith, h))

written_off : (day p : ℕ) (k : Catalogue) (office : Office) → p < 3
    → office_accrued (written_off_of p) everything day k office
    ≡ pos (sum_by (λ (l : Ledger). slice_index (balances_in k l).written_off p) office.rows.loans)
written_off day zero k office h =
    sum-pos (λ (l : Ledger). slice_index (balances_in k l).written_off 0) office.rows.loans
written_off day (suc zero) k office h =
    sum-pos (λ (l : Ledger). slice_index (balances_in k l).written_off 1) office.rows.loans
written_off day (suc (suc zero)) k office h =
    sum-pos (λ (l : Ledger). slice_index (balances_in k l).written_off 2) office.rows.loans
written_off day (suc (suc (suc p))) k office h = absurd (omega (arith, h))

-- income that was paid, and that was not
paid : (p : ℕ) (k : Catalogue) (office : Office) → p < 3 → office_balance (income_of p) everything k office
    ≡ neg_ℤ (pos (sum_by (λ (l : Ledger). slice_index (balances_in k l).paid p) office.rows.loans))
paid zero k office h = sum-neg (λ (l : Ledger). slice_index (balances_in k l).paid 0) office.rows.loans
paid (suc zero) k office h = sum-neg (λ (l : Ledger). slice_index (balances_in k l).paid 1) office.rows.loans
paid (suc (suc zero)) k office h = sum-neg (λ (l : Ledger). slice_index (balances_in k l).paid 2) office.rows.loans
paid (suc (suc (suc p))) k office h = absurd (omega (arith, h))

unpaid : (day p : ℕ) (k : Catalogue) (office : Office) → p < 3
    → office_accrued (income_of p) everything day k office
    ≡ neg_ℤ (pos (sum_by (λ (l : Ledger). slice_index (accrued_in day k l).due p) office.rows.loans)
    +ℤ (pos (sum_by (λ (l : Ledger). slice_index (balances_in k l).waived p) office.rows.loans)
    +ℤ pos (sum_by (λ (l : Ledger). slice_index (balances_in k l).written_off p) office.rows.loans)))
unpaid day zero k office h = unpaid-sums 0 (accrued_in day k) office.rows.loans
unpaid day (suc zero) k office h = unpaid-sums 1 (accrued_in day k) office.rows.loans
unpaid day (suc (suc zero)) k office h = unpaid-sums 2 (accrued_in day k) office.rows.loans
unpaid day (suc (suc (suc p))) k office h = absurd (omega (arith, h))

pub returns-clause-receivable : goal.returns-clause-receivable
returns-clause-receivable c = λ day p k office h. receivable day p k office h

pub returns-clause-waived : goal.returns-clause-waived
returns-clause-waived c = λ day p k office h. waived day p k office h

pub returns-clause-written_off : goal.returns-clause-written_off
returns-clause-written_off c = λ day p k office h. written_off day p k office h

pub returns-clause-paid : goal.returns-clause-paid
returns-clause-paid c = λ day p k office h.
    let a = receivable day p k office h in
    let b = waived day p k office h in
    let d = written_off day p k office h in
    let e = paid p k office h in
    let f = unpaid day p k office h in
    omega (arith, ints, a, b, d, e, f)
