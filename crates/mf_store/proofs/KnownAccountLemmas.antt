-- What is told of a loan whose account is known.
use Rattle.std.proofs.Common.{◌≡◌, [], Option, None, Some, refl, sym, ap, ◌∙◌}
use Rattle.std.specs.Option.{option_map}
use Rattle.mf_account.specs.Account.{status_of}
use Rattle.mf_account.specs.Balance.{balances_by, balances_of}
use Rattle.mf_account.specs.Change.{KeptAccount, account_by_replay}
use Rattle.mf_account.specs.Loan.{DisbursedLoan, fee_of_loan, status_of_loan}
use Rattle.mf_office.specs.declared.account.Account.{Account}
use Rattle.mf_statement.specs.Lines.{instalments_from, instalments_of}
use Rattle.mf_model.specs.Accounts.{account_in, balances_in, instalments_in, no_balances, of_account, status_in}
use Rattle.mf_model.specs.Institution.{Institution, Ledger}
use Rattle.mf_model.specs.Stages.{stage_number}
use Rattle.mf_store.proofs.CatalogueLemmas.{mapped}
use Rattle.mf_model.specs.Store.{ledger_at, account_at, account_of, instalments_at}

-- what is told of the account of a loan that is there is what its replay tells
told_of_known : {A : Type 0} (none : A) (read : DisbursedLoan → A) (told : KeptAccount → A) → ((r : DisbursedLoan)
    → told (account_by_replay r) ≡ read r) → (loan : Account) (l : Ledger) (i : Institution) (x : KeptAccount)
    → ledger_at loan i ≡ Some l → account_at loan i ≡ Some x → told x ≡ of_account none read (account_in i.catalogue l)
told_of_known none read told same loan l i x there known =
    let of = mapped account_by_replay (account_in i.catalogue l) x
    (sym (ap (λ o. option_map account_by_replay (account_of i.catalogue o)) there) ∙ known) in
    ap told of.2 ∙ same of.0 ∙ sym (ap (of_account none read) of.1)

-- its status
pub status_known : (loan : Account) (l : Ledger) (i : Institution) (x : KeptAccount) → ledger_at loan i ≡ Some l
    → account_at loan i ≡ Some x → status_of x.loan.entries x.state ≡ status_in i.catalogue l
status_known loan l = told_of_known (stage_number l.loan.stage) status_of_loan
    (λ (y : KeptAccount). status_of y.loan.entries
    y.state) (λ r. refl) loan l

-- its sums
pub balances_known : (loan : Account) (l : Ledger) (i : Institution) (x : KeptAccount) → ledger_at loan i ≡ Some l
    → account_at loan i ≡ Some x → balances_by (fee_of_loan x.loan) x.state ≡ balances_in i.catalogue l
balances_known = told_of_known no_balances balances_of (λ (y : KeptAccount). balances_by (fee_of_loan y.loan) y.state)
    (λ r. refl)

-- its instalments
pub instalments_known : (loan : Account) (i : Institution) (x : KeptAccount) → account_at loan i ≡ Some x
    → Some (instalments_from 1 x.state.rows) ≡ instalments_at loan i
instalments_known loan i x known = go (ledger_at loan i) refl
  where
    go : (o : Option Ledger) → ledger_at loan i ≡ o → Some (instalments_from 1 x.state.rows)
        ≡ option_map (instalments_in i.catalogue) o
    go None e = absurd (let never : None ≡ Some x =
        sym (ap (λ o. option_map account_by_replay (account_of i.catalogue o)) e) ∙ known in cc)
    go (Some l) e = ap Some (told_of_known [] instalments_of (λ (y : KeptAccount). instalments_from 1 y.state.rows)
        (λ r. refl)
        loan l i x e known)
