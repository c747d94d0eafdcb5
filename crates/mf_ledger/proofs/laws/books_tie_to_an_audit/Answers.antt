use Rattle.std.proofs.Common.{arith}
use Rattle.std.specs.Prelude.{slice_index}
use Rattle.std.proofs.lemmas.Int.{ints}
use Rattle.mf_account.specs.Balance.{sum_repaid}
use Rattle.mf_model.specs.Accounts.{balances_in}
use Rattle.mf_model.specs.Institution.{Ledger}
use Rattle.mf_ledger.specs.Books.{lent_on}
use Rattle.mf_ledger.proofs.TieLemmas.{sum-pos, sum-neg, cash-sums, paid-sums}
use Rattle.mf_ledger.proofs.laws.books_tie_to_an_audit.Goals as goal

pub returns-clause-outstanding : goal.returns-clause-outstanding
returns-clause-outstanding c = λ k office.
    sum-pos (λ (l : Ledger). slice_index (balances_in k l).outstanding 3) office.rows.loans

pub returns-clause-written_off : goal.returns-clause-written_off
returns-clause-written_off c = λ k office.
    sum-pos (λ (l : Ledger). slice_index (balances_in k l).written_off 3) office.rows.loans

pub returns-clause-overpaid : goal.returns-clause-overpaid
returns-clause-overpaid c = λ k office. sum-neg (λ (l : Ledger). (balances_in k l).overpaid) office.rows.loans

pub returns-clause-paid : goal.returns-clause-paid
returns-clause-paid c = λ k office.
    let interest = sum-neg (λ (l : Ledger). slice_index (balances_in k l).paid 2) office.rows.loans in
    let fees = sum-neg (λ (l : Ledger). slice_index (balances_in k l).paid 1) office.rows.loans in
    let penalties = sum-neg (λ (l : Ledger). slice_index (balances_in k l).paid 0) office.rows.loans in
    let all = paid-sums k office.rows.loans in
    omega (arith, ints, interest, fees, penalties, all)

pub returns-clause-cash : goal.returns-clause-cash
returns-clause-cash c = λ k office.
    let all = cash-sums (λ (l : Ledger). sum_repaid l.entries) (λ (l : Ledger). (balances_in k l).disbursement_fee)
    (lent_on k) (λ (l : Ledger). (balances_in k l).refunded) office.rows.loans in
    let kept = sum-neg (λ (l : Ledger). (balances_in k l).disbursement_fee) office.rows.loans in
    omega (arith, ints, all, kept)
