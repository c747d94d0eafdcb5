use Rattle.std.proofs.Common.{◌≡◌, ◌∙◌, Option, None, Some, ap, sym, refl}
use Rattle.std.specs.Option.{option_map}
use Rattle.mf_account.specs.Change.{KeptAccount, account_by_replay}
use Rattle.mf_account.specs.Loan.{DisbursedLoan}
use Rattle.mf_model.specs.declared.loan.Loan.{Loan}
use Rattle.mf_model.specs.declared.loan.Statement.{Statement}
use Rattle.mf_model.specs.Accounts.{account_in, balances_in}
use Rattle.mf_ledger.specs.declared.books.LoanSums.{LoanSums}
use Rattle.mf_ledger.proofs.LoanBooks.{none_read, some_read}
use Rattle.mf_ledger.proofs.books.LoanSums.of.Goals as goal

no_account : (o : Option DisbursedLoan) → None ≡ option_map account_by_replay o → o ≡ None
no_account None h = refl
no_account (Some a) h = absurd (cc)

some_account : (x : KeptAccount) (o : Option DisbursedLoan) → Some x ≡ option_map account_by_replay o
    → (a : DisbursedLoan) × (o ≡ Some a)
some_account x None h = absurd (cc)
some_account x (Some a) h = (a, refl)

pub returns-in-None : goal.returns-in-None
returns-in-None c k staffed clients l catalogue sound loan account =
    let none = no_account (account_in k l) (sym c.in-None.is ∙ account) in
    let balances : c.of.result.balances ≡ balances_in k l =
    ap (λ (s : Statement). s.balances) (c.of.ensures k l loan account) in
    none_read k staffed clients l c.of.result.balances sound none balances

pub returns-in-Some : goal.returns-in-Some
returns-in-Some c k staffed clients l catalogue sound loan account =
    let there = some_account c.in-Some.field-0 (account_in k l) (sym c.in-Some.is ∙ account) in
    let balances : c.of.result.balances ≡ balances_in k l =
    ap (λ (s : Statement). s.balances) (c.of.ensures k l loan account) in
    let made : Loan → LoanSums =
    λ x. record { lent = x.principal; repaid = c.repaid_in.result; balances = c.of.result.balances } in
    ap made loan ∙ some_read k staffed clients l there.0 c.of.result.balances c.repaid_in.result catalogue sound there.1
    balances c.repaid_in.ensures
