use Rattle.std.proofs.Common.{◌≡◌, ◌∙◌, Option, None, Some, ap, sym, refl}
use Rattle.std.specs.Option.{option_map}
use Rattle.mf_account.specs.Account.{status_of}
use Rattle.mf_account.specs.Balance.{balances_by, balances_of}
use Rattle.mf_account.specs.Change.{KeptAccount, account_by_replay}
use Rattle.mf_account.specs.Loan.{DisbursedLoan, fee_of_loan, status_of_loan}
use Rattle.mf_model.specs.declared.loan.Loan.{Loan}
use Rattle.mf_model.specs.Accounts.{account_in, no_balances, of_account, statement, statement_with}
use Rattle.mf_model.specs.Stages.{stage_number}
use Rattle.mf_model.proofs.loan.Statement.of.Goals as goal

pub returns-in-Some : goal.returns-in-Some
returns-in-Some c k l loan account = at (account_in k l) refl (sym c.in-Some.is ∙ account)
  where
    own : KeptAccount
    own = c.in-Some.account

    at : (o : Option DisbursedLoan) → account_in k l ≡ o → Some own ≡ option_map account_by_replay o
        → c.with-in-Some.result ≡ statement k l
    at None is same = absurd (cc)
    at (Some a) is same =
        let replayed : own ≡ account_by_replay a = cc in
        let status : c.status-in-Some.result ≡ of_account (stage_number l.loan.stage) status_of_loan (account_in k l) =
        c.status-in-Some.ensures ∙ ap (λ (x : KeptAccount). status_of x.loan.entries x.state) replayed
        ∙ sym (ap (of_account (stage_number l.loan.stage) status_of_loan) is) in
        let balances : c.balances.result ≡ of_account no_balances balances_of (account_in k l) =
        c.balances.ensures.value ∙ ap (λ (x : KeptAccount). balances_by (fee_of_loan x.loan) x.state) replayed
        ∙ sym (ap (of_account no_balances balances_of) is) in
        c.with-in-Some.ensures ∙ ap (λ (x : Loan). statement_with x c.status-in-Some.result c.balances.result) loan
        ∙ ap (λ s. statement_with l.loan s c.balances.result) status
        ∙ ap (λ b. statement_with l.loan (of_account (stage_number l.loan.stage) status_of_loan (account_in k l)) b)
        balances
