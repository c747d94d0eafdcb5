-- The status that a loan's entries and its instalments tell is that of its account.
use Rattle.std.proofs.Common.{◌≡◌, ℕ, List, [], Option, Some, sym, ap, subst, ◌∙◌}
use Rattle.std.specs.Prelude.{IfSome}
use Rattle.mf_alloc.specs.Sums.{Instalment}
use Rattle.mf_account.specs.declared.entry.Entry.{Entry}
use Rattle.mf_account.specs.Loan.{DisbursedLoan, IsSoundDisbursed, state_of_loan, status_of_loan}
use Rattle.mf_office.specs.declared.account.Account.{Account}
use Rattle.mf_model.specs.Accounts.{account_in, of_account, status_in}
use Rattle.mf_model.specs.Institution.{Institution, Ledger}
use Rattle.mf_model.specs.Sound.{IsSound}
use Rattle.mf_model.specs.Stages.{stage_number, disbursed_on}
use Rattle.mf_model.specs.Store.{ledger_at}
use Rattle.mf_model.proofs.AccountLemmas.{account_is, account_there}
use Rattle.mf_store.proofs.ArrearsLemmas.{rows_of_account}
use Rattle.mf_store_commits.proofs.EnteredLemmas.{loan_sound}
use Rattle.mf_store.proofs.InstalmentReadLemmas.{loan_account_sound}

-- what entries and rows tell of a loan that has them
abbrev pub TellsStatus : List Entry → List Instalment → Option ℕ → Type 0
TellsStatus entries rows told =
    (r : DisbursedLoan) → IsSoundDisbursed r → entries ≡ r.entries → rows ≡ (state_of_loan r).rows
    → IfSome told (λ status. status ≡ status_of_loan r)

-- the status of a disbursed loan of a sound institution
pub status_read : (loan : Account) (l : Ledger) (i : Institution) (day : ℕ) (entries : List Entry)
    (rows : List Instalment)
    (told : Option ℕ) → IsSound i → ledger_at loan i ≡ Some l → disbursed_on l.loan.stage ≡ Some day
    → entries ≡ l.entries → rows ≡ of_account [] rows_of_account (account_in i.catalogue l)
    → TellsStatus entries rows told → IfSome told (λ status. status ≡ status_in i.catalogue l)
status_read loan l i day entries rows told sound there disbursed entered kept tells =
    let found = account_there i.catalogue l day disbursed (loan_sound loan l i sound there).product in
    let a : DisbursedLoan = found.0 in
    let is : account_in i.catalogue l ≡ Some a = found.1 in
    let made = account_is i.catalogue l a is in
    subst (λ (x : ℕ). IfSome told (λ status. status ≡ x))
    (sym (ap (of_account (stage_number l.loan.stage) status_of_loan) is))
    (tells a (loan_account_sound loan l i sound there a is)
    (entered ∙ ap (λ (r : DisbursedLoan). r.entries) made.account_is)
    (kept ∙ ap (of_account [] rows_of_account) is))
