use Rattle.std.proofs.Common.{ℕ, ◌≡◌, ◌+◌, ◌<◌, ◌∙◌, ap, sym, subst, sum, get_or}
use Rattle.mf_account.specs.declared.balances.Balances.{Balances}
use Rattle.mf_account.specs.Balance.{balances_by, balances_of, sum_repaid}
use Rattle.mf_account.specs.Loan.{DisbursedLoan, fee_of_loan}
use Rattle.mf_account.proofs.ConserveLemmas.{balances-repaid, balances-principal, balances-apart, balances_by-whole}
use Rattle.mf_account.proofs.account.LoanAccount.balances.Goals as goal

pub returns-clause-repaid : goal.returns-clause-repaid
returns-clause-repaid c replayed =
    let loan : DisbursedLoan = c.args.self.now.loan in
    let is : c.sums.result ≡ balances_of loan =
    c.sums.ensures.value ∙ ap (balances_by (fee_of_loan loan)) replayed.state in
    subst (λ (b : Balances). sum b.paid + b.overpaid + b.refunded ≡ sum_repaid loan.entries) (sym is)
    (balances-repaid loan c.sums.ensures.sound)

pub returns-clause-principal : goal.returns-clause-principal
returns-clause-principal c replayed =
    let loan : DisbursedLoan = c.args.self.now.loan in
    let is : c.sums.result ≡ balances_of loan =
    c.sums.ensures.value ∙ ap (balances_by (fee_of_loan loan)) replayed.state in
    subst (λ (b : Balances). get_or b.paid 3 0 + get_or b.written_off 3 0 + get_or b.outstanding 3 0 ≡ loan.principal)
    (sym is) (balances-principal loan c.sums.ensures.sound)

pub returns-clause-apart : goal.returns-clause-apart
returns-clause-apart c replayed =
    let loan : DisbursedLoan = c.args.self.now.loan in
    let is : c.sums.result ≡ balances_of loan =
    c.sums.ensures.value ∙ ap (balances_by (fee_of_loan loan)) replayed.state in
    subst (λ (b : Balances). 0 < b.overpaid → sum b.outstanding ≡ 0) (sym is) (balances-apart loan c.sums.ensures.sound)

pub returns-clause-whole : goal.returns-clause-whole
returns-clause-whole c =
    subst (λ (b : Balances). (p : ℕ) → p < 4 → get_or b.paid p 0 + get_or b.waived p 0 + get_or b.written_off p 0
    + get_or b.outstanding p 0 ≡ get_or b.owed p 0) (sym c.sums.ensures.value)
    (balances_by-whole (fee_of_loan c.args.self.now.loan) c.args.self.now.state c.sums.ensures.apart)
