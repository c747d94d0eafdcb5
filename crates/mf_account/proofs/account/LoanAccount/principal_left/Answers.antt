use Rattle.std.proofs.Common.{◌≡◌, ◌≤◌, ◌+◌, ◌^◌, ◌∙◌, arith, ap, sym, subst, get_or}
use Rattle.mf_account.specs.declared.balances.Balances.{Balances}
use Rattle.mf_account.specs.Balance.{balances_by, balances_of}
use Rattle.mf_account.specs.Loan.{DisbursedLoan, fee_of_loan}
use Rattle.mf_account.proofs.ConserveLemmas.{balances-principal}
use Rattle.mf_account.proofs.account.LoanAccount.principal_left.Goals as goal

pub returns-clause-value : goal.returns-clause-value
returns-clause-value c =
    rw c.index.ensures.value (ap (λ (b : Balances). get_or b.outstanding 3 0) c.sums-sums.ensures.value)

pub returns-clause-most : goal.returns-clause-most
returns-clause-most c replayed =
    let loan : DisbursedLoan = c.args.self.now.loan in
    let is : c.sums-sums.result ≡ balances_of loan =
    c.sums-sums.ensures.value ∙ ap (balances_by (fee_of_loan loan)) replayed.state in
    let whole : get_or (balances_of loan).paid 3 0 + get_or (balances_of loan).written_off 3 0 + get_or
    (balances_of loan).outstanding 3 0 ≡ loan.principal = balances-principal loan c.sums-sums.ensures.sound in
    let most : loan.principal ≤ 10 ^ 12 = c.sums-sums.ensures.sound.limits.most_principal in
    let own : get_or (balances_of loan).outstanding 3 0 ≤ 10 ^ 12 = omega (arith, whole, most) in
    let told : get_or c.sums-sums.result.outstanding 3 0 ≤ 10 ^ 12 =
    subst (λ (s : Balances). get_or s.outstanding 3 0 ≤ 10 ^ 12) (sym is) own in
    rw c.index.ensures.value told
