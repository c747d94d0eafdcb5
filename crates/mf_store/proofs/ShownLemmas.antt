-- What is shown of a loan: its last instalment, its sums while something is outstanding, and its account.
use Rattle.std.proofs.Common.{◌≡◌, ℕ, Bool, true, false, List, [], map, filter, find, Option}
use Rattle.std.proofs.Common.{Some, refl, sym, ap, ◌∙◌, arith, true≢false}
use Rattle.std.specs.List.{list_any}
use Rattle.std.proofs.lemmas.Bool.{true_from_ne_false}
use Rattle.sqlite_keyed.proofs.ListLemmas.{all_map, all_unmap, all_weaker, none_from_any}
use Rattle.mf_store.proofs.CatalogueLemmas.{found_all}
use Rattle.std.proofs.lemmas.Bool.Decides.{nat_tests}
use Rattle.sqlite_catalog.proofs.ListFacts.{find_within}
use Rattle.mf_alloc.specs.Sums.{Instalment, is_open}
use Rattle.mf_catalog.specs.declared.terms.Terms.{Terms}
use Rattle.mf_account.specs.declared.balances.Balances.{Balances}
use Rattle.mf_account.specs.Balance.{balances_of}
use Rattle.mf_account.specs.Loan.{DisbursedLoan, IsSoundDisbursed, state_of_loan}
use Rattle.mf_office.specs.declared.account.Account.{Account}
use Rattle.mf_model.specs.declared.loan.Loan.{Loan}
use Rattle.mf_model.specs.Accounts.{account_in, balances_in, no_balances, of_account, running_from, running_loan}
use Rattle.mf_model.specs.Accounts.{terms_in}
use Rattle.mf_model.specs.Institution.{Institution, Ledger}
use Rattle.mf_model.specs.Sound.{IsSound}
use Rattle.mf_model.specs.Stages.{disbursed_on}
use Rattle.mf_model.specs.Store.{ledger_at}
use Rattle.mf_store_schema.specs.Rows.{is_row_of_instalment, is_instalment_of}
use Rattle.mf_store_schema.specs.declared.instalments.InstalmentRow.{InstalmentRow}
use Rattle.mf_store_values.specs.Flat.{tables_of, instalment_in, instalments_kept, kept_of, had_by}
use Rattle.mf_store_values.specs.Principal.{IsOpenRow, IsFirstOpen}
use Rattle.mf_store.proofs.InstalmentReadLemmas.{sums_of, sums_kept, loan_account_sound}
use Rattle.mf_store_values.proofs.LoanRowLemmas.{loan_shown}

-- ---- the last instalment

-- an instalment that is found among a loan's and is open
found_open : (p : InstalmentRow → Bool) (x n : ℕ) (items : List (ℕ × Instalment)) (row : InstalmentRow)
    → find p (map (instalment_in x n) items) ≡ Some row → IsOpenRow row → list_any is_open (map sums_of items) ≡ true
found_open p x n items row is left = true_from_ne_false (list_any is_open (map sums_of items)) (λ none. found_all
    (λ r. IsOpenRow r → ⊥) p (map (instalment_in x n) items) row is (all_map (λ r. IsOpenRow r → ⊥) (instalment_in x n)
    items (all_weaker (λ item. is_open (sums_of item) ≡ false) (λ item. IsOpenRow (instalment_in x n item) → ⊥)
    (λ item shut is. true≢false (sym (is x n item.0 item.1 refl) ∙ shut)) items
    (all_unmap (λ s. is_open s ≡ false) sums_of items (none_from_any is_open (map sums_of items) none)))) left)

-- where an instalment of a loan that is there is open, something of the loan is
pub open_by_one : (loan : Account) (m : ℕ) (l : Ledger) (i : Institution) → IsSound i → ledger_at loan i ≡ Some l
    → IsFirstOpen (is_row_of_instalment loan.office loan.number m) (tables_of i).instalments
    → list_any is_open (of_account [] (λ a. (state_of_loan a).rows) (account_in i.catalogue l)) ≡ true
open_by_one loan m l i sound there is =
    let x = loan.office in
    let n = loan.number in
    let kept = kept_of instalments_kept i.catalogue in
    let all = (tables_of i).instalments in
    let own : filter (is_instalment_of x n) all ≡ map (instalment_in x n) (kept l) =
    loan_shown instalment_in kept is_instalment_of (λ x n y m a. refl) x n i.offices sound.tree.ascending
    ∙ ap (λ o. map (instalment_in x n) (had_by kept o)) there in
    let found : find (is_row_of_instalment x n m) (map (instalment_in x n) (kept l)) ≡ Some is.row =
    sym (ap (find (is_row_of_instalment x n m)) own)
    ∙ find_within (is_row_of_instalment x n m) (is_instalment_of x n) all
    (λ r has other. grind (arith, nat_tests, other))
    ∙ is.found in
    sym (ap (list_any is_open) (sums_kept (account_in i.catalogue l)))
    ∙ found_open (is_row_of_instalment x n m) x n (kept l) is.row found is.is_open

-- ---- the sums of a loan of which something is outstanding

-- what the sums of a loan's instalments are to its account
abbrev pub AreOpenSums : Loan → ℕ → Terms → List Instalment → Option Balances → Type 0
AreOpenSums loan day terms rows found =
    (r : DisbursedLoan) → IsSoundDisbursed r → r.terms ≡ terms → r.principal ≡ loan.principal → r.periods ≡ loan.periods
    → r.day ≡ day → rows ≡ (state_of_loan r).rows → found ≡ Some (balances_of r)

pub open_read : (account : Account) (l : Ledger) (i : Institution) (loan : Loan) (day : ℕ) (terms : Terms)
    (rows : List Instalment) (found : Option Balances) (sums : Balances) → IsSound i → ledger_at account i ≡ Some l
    → l.loan ≡ loan → disbursed_on loan.stage ≡ Some day → terms_in i.catalogue loan.product ≡ Some terms
    → rows ≡ of_account [] (λ a. (state_of_loan a).rows) (account_in i.catalogue l)
    → AreOpenSums loan day terms rows found → found ≡ Some sums → sums ≡ balances_in i.catalogue l
open_read account l i loan day terms rows found sums sound there its disbursed named rows_are told is =
    let r : DisbursedLoan = running_loan l.loan l.entries day terms in
    let own : account_in i.catalogue l ≡ Some r =
    (λ t. running_from l.loan l.entries (disbursed_on (its t).stage) (terms_in i.catalogue (its t).product))
    ∙ (λ t. running_from l.loan l.entries (disbursed t) (named t)) in
    let exact : found ≡ Some (balances_of r) = told r (loan_account_sound account l i sound there r own) refl
    (ap (λ (x : Loan). x.principal) its) (ap (λ (x : Loan). x.periods) its) refl
    (rows_are ∙ ap (of_account [] (λ a. (state_of_loan a).rows)) own) in
    let both : Some sums ≡ Some (balances_of r) = sym is ∙ exact in
    let same : sums ≡ balances_of r = cc in
    same ∙ sym (ap (of_account no_balances balances_of) own)
