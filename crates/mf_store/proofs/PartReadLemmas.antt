-- What is resumed of a loan.
use Rattle.std.proofs.Common.{◌≡◌, ℕ, List, [], map, Some, sym, ap, ◌∙◌}
use Rattle.mf_alloc.specs.Sums.{Instalment}
use Rattle.mf_catalog.specs.declared.terms.Terms.{Terms}
use Rattle.mf_account.specs.declared.entry.Entry.{Entry}
use Rattle.mf_account.specs.declared.settled.SettledPart.{SettledPart}
use Rattle.mf_account.specs.Change.{AreKeptOf, settled_in}
use Rattle.mf_account.specs.Loan.{IsSoundDisbursed, state_of_loan}
use Rattle.mf_office.specs.declared.account.Account.{Account}
use Rattle.mf_model.specs.declared.loan.Loan.{Loan}
use Rattle.mf_model.specs.Accounts.{account_in, of_account, running_loan, running_from, terms_in}
use Rattle.mf_model.specs.Institution.{Institution, Ledger}
use Rattle.mf_model.specs.Sound.{IsSound}
use Rattle.mf_model.specs.Stages.{disbursed_on}
use Rattle.mf_model.specs.Store.{ledger_at, loan_at}
use Rattle.mf_store_values.specs.Flat.{shares_kept, kept_of, ledger_entries}
use Rattle.mf_store_values.specs.Kept.{part_told}
use Rattle.mf_store_values.proofs.KeptLemmas.{shares_told}
use Rattle.mf_store.proofs.InstalmentReadLemmas.{loan_account_sound}
use Rattle.mf_store.proofs.CatalogueLemmas.{mapped}
use Rattle.mf_store_commits.proofs.LoanLemmas.{loan_of}

-- the ledger of a loan that is there
pub ledger_of : (account : Account) (loan : Loan) (i : Institution) → loan_at account i ≡ Some loan
    → (l : Ledger) × (ledger_at account i ≡ Some l) × (loan ≡ l.loan)
ledger_of account loan i = mapped loan_of (ledger_at account i) loan

-- what is kept of a loan is what its replay gives
pub kept_is : (i : Institution) (account : Account) (loan : Loan) (day : ℕ) (entries : List Entry) (terms : Terms)
    (rows : List Instalment) (parts : List SettledPart) → IsSound i → loan_at account i ≡ Some loan
    → disbursed_on loan.stage
    ≡ Some day
    → entries ≡ ledger_entries (ledger_at account i) → terms_in i.catalogue loan.product ≡ Some terms
    → ((l : Ledger) → ledger_at account i ≡ Some l → rows ≡ of_account [] (λ a. (state_of_loan a).rows)
    (account_in i.catalogue l))
    → ((l : Ledger) → ledger_at account i ≡ Some l → parts ≡ map part_told (kept_of shares_kept i.catalogue l))
    → IsSoundDisbursed (running_loan loan entries day terms) × AreKeptOf (running_loan loan entries day terms) rows
    parts
kept_is i account loan day entries terms rows parts sound there disbursed entered named kept_rows kept_parts =
    let of = ledger_of account loan i there in
    let own : entries ≡ of.0.entries = entered ∙ ap ledger_entries of.1 in
    let is : account_in i.catalogue of.0 ≡ Some (running_loan loan entries day terms) = (λ t. running_from (sym of.2 t)
    (sym own t) (disbursed_on (sym of.2 t).stage) (terms_in i.catalogue (sym of.2 t).product))
    ∙ (λ t. running_from loan entries (disbursed t) (named t)) in
    let whole = loan_account_sound account of.0 i sound of.1 (running_loan loan entries day terms) is in (
      whole,
      record {
        rows_are = kept_rows of.0 of.1 ∙ ap (of_account [] (λ a. (state_of_loan a).rows)) is;
        parts_are = λ seq. ap (settled_in seq) (kept_parts of.0 of.1
            ∙ ap (λ o. map part_told (of_account [] shares_kept o)) is)
            ∙ shares_told (running_loan loan entries day terms) seq whole;
      },
    )
