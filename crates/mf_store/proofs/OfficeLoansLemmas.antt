-- The loans of an office of an institution, as the rows of their instalments tell them.
use Rattle.std.proofs.Common.{◌≡◌, ◌<◌, ◌≤◌, ◌+◌, ◌^◌, ◌++◌, ℕ, suc, get_or, length, List, [], ◌∷◌, map, filter, Option}
use Rattle.std.proofs.Common.{None, Some, refl, sym, ap, ap₂, ◌∙◌, subst, arith, is_eq, nat_cmp}
use Rattle.std.specs.Prelude.{sum_by}
use Rattle.std.specs.List.{AllByRecursion}
use Rattle.std.proofs.lemmas.List.Sums.{sum_by-le-sum_by}
use Rattle.sqlite_keyed.proofs.ListLemmas.{all_weaker}
use Rattle.mf_alloc.specs.Sums.{Instalment, open_at}
use Rattle.mf_account.specs.Balance.{open_in}
use Rattle.mf_account.specs.Loan.{DisbursedLoan, IsSoundDisbursed, state_of_loan}
use Rattle.mf_account.proofs.ConserveLemmas.{principal-sound}
use Rattle.mf_model.specs.Accounts.{account_in, of_account}
use Rattle.mf_model.specs.Arrears.{active_in}
use Rattle.mf_arrears.specs.Line.{AgedLoan, OfficeLine, line_of_loans}
use Rattle.mf_model.specs.Institution.{Institution, Catalogue, Ledger}
use Rattle.mf_model.specs.Sound.{IsSound, IsSoundLoan, is_staff}
use Rattle.mf_model.specs.Store.{rows_at}
use Rattle.mf_model.proofs.AccountLemmas.{account_sound}
use Rattle.mf_store_schema.specs.Rows.{is_instalment_in}
use Rattle.mf_store_values.specs.Flat.{tables_of, instalment_in, instalments_kept, kept_of, rows_of_loans, rows_by_loan}
use Rattle.mf_store_values.specs.Arrears.{NumberedLoan, AreAbove, AreWholeLoans, rows_of_office, aged_rows, aged_loans}
use Rattle.mf_store_values.specs.Folding.{principal_left_of, AreWithinSums}
use Rattle.mf_store.proofs.ArrearsLemmas.{aged_told}
use Rattle.mf_store.proofs.InstalmentReadLemmas.{whole_kept, sums_kept}
use Rattle.mf_store.proofs.OfficeRowsLemmas.{block_filtered}
use Rattle.mf_store_values.proofs.LoanRowLemmas.{all_loans}
use Rattle.mf_store_values.proofs.SoundLemmas.{office_sound}

-- ---- loans, the first with this number, with their instalments

abbrev pub loans_from : Catalogue → ℕ → List Ledger → List NumberedLoan
loans_from k n [] = []
loans_from k n (l ∷ ls) = (n, kept_of instalments_kept k l) ∷ loans_from k (n + 1) ls

above_from : (k : Catalogue) (m n : ℕ) (ls : List Ledger) → m < n → AreAbove m (loans_from k n ls)
above_from k m n [] low = tt
above_from k m n (l ∷ ls) low = (low, above_from k n (n + 1) ls (omega arith))

rows_from : (k : Catalogue) (x n : ℕ) (ls : List Ledger) → rows_of_loans instalment_in (kept_of instalments_kept k) x n
    ls ≡ rows_of_office x (loans_from k n ls)
rows_from k x n [] = refl
rows_from k x n (l ∷ ls) = ap (λ rows. map (instalment_in x n) (kept_of instalments_kept k l) ++ rows)
    (rows_from k x (n + 1) ls)

-- the rows of an office are, loan by loan, those of its loans' instalments
pub office_rows : (x : ℕ) (i : Institution) → IsSound i → filter (is_instalment_in x) (tables_of i).instalments
    ≡ rows_of_office x (loans_from i.catalogue 1 (rows_at x i).loans)
office_rows x i sound =
    let kept = kept_of instalments_kept i.catalogue in
    block_filtered (rows_by_loan instalment_in kept) (λ y rows. rows_of_loans instalment_in kept y 1 rows.loans) refl
    (λ f fs. refl) is_instalment_in (λ x y rows. all_loans instalment_in kept (λ r. is_instalment_in x r
    ≡ is_eq (nat_cmp x y)) y 1 rows.loans (λ m a low. refl)) x refl i.offices sound.tree.ascending
    ∙ rows_from i.catalogue x 1 (rows_at x i).loans

-- each account is sound
abbrev pub HaveSound : Catalogue → List Ledger → Type 0
HaveSound k ls = AllByRecursion (λ l. (a : DisbursedLoan) → account_in k l ≡ Some a → IsSoundDisbursed a) ls

office_accounts : (x : ℕ) (i : Institution) → IsSound i → HaveSound i.catalogue (rows_at x i).loans
office_accounts x i sound =
    let k = i.catalogue in
    let rows = rows_at x i in
    all_weaker (IsSoundLoan k (is_staff i.offices) rows.clients) (λ l. (a : DisbursedLoan) → account_in k l ≡ Some a
    → IsSoundDisbursed a) (λ l is a at. account_sound k (is_staff i.offices) rows.clients l a sound.catalogue is at)
    rows.loans (office_sound k (is_staff i.offices) x i.offices sound.each).loans

whole_from : (k : Catalogue) (n : ℕ) (ls : List Ledger) → HaveSound k ls → AreWholeLoans (loans_from k n ls)
whole_from k n [] all = tt
whole_from k n (l ∷ ls) all = (whole_kept (account_in k l) all.0, whole_from k (n + 1) ls all.1)

-- they count as the report counts them
aged_from : (k : Catalogue) (n : ℕ) (ls : List Ledger) → HaveSound k ls → aged_loans k.day (loans_from k n ls)
    ≡ active_in k ls
aged_from k n [] all = refl
aged_from k n (l ∷ ls) all = ap₂ ◌++◌ (ap (aged_rows k.day) (sums_kept (account_in k l))
    ∙ aged_told k.day (account_in k l) all.0) (aged_from k (n + 1) ls all.1)

-- the loans of an office rise by number, and each is whole
pub above_first : (x : ℕ) (i : Institution) → AreAbove 0 (loans_from i.catalogue 1 (rows_at x i).loans)
above_first x i = above_from i.catalogue 0 1 (rows_at x i).loans (omega arith)

pub whole_first : (x : ℕ) (i : Institution) → IsSound i → AreWholeLoans (loans_from i.catalogue 1 (rows_at x i).loans)
whole_first x i sound = whole_from i.catalogue 1 (rows_at x i).loans (office_accounts x i sound)

-- their line on the business day is the report's
pub line_told : (x today : ℕ) (i : Institution) (line : OfficeLine) → IsSound i → today ≡ i.catalogue.day
    → line ≡ line_of_loans x (aged_loans today (loans_from i.catalogue 1 (rows_at x i).loans))
    → line ≡ line_of_loans x (active_in i.catalogue (rows_at x i).loans)
line_told x today i line sound day is =
    let loans = loans_from i.catalogue 1 (rows_at x i).loans in
    let aged : aged_loans today loans ≡ active_in i.catalogue (rows_at x i).loans = ap (λ t. aged_loans t loans) day
    ∙ aged_from i.catalogue 1 (rows_at x i).loans (office_accounts x i sound) in
    subst (λ (counted : List AgedLoan). line ≡ line_of_loans x counted) aged is

-- none of them is large, and they are few
open_under : (rows : List Instalment) → open_in 3 rows ≤ sum_by (λ (row : Instalment). get_or row.owed 3 0) rows
open_under rows = sum_by-le-sum_by (λ (row : Instalment). open_at row 3) (λ (row : Instalment). get_or row.owed 3 0)
    rows
    (λ row. omega arith)

small_rows : (o : Option DisbursedLoan) → ((a : DisbursedLoan) → o ≡ Some a → IsSoundDisbursed a)
    → open_in 3 (of_account [] (λ (a : DisbursedLoan). (state_of_loan a).rows) o) ≤ 10 ^ 12
small_rows None sound = omega arith
small_rows (Some a) sound =
    let is = sound a refl in
    let less = open_under (state_of_loan a).rows in
    let owed = (principal-sound a is).owed in
    let most = is.limits.most_principal in
    omega (arith, less, owed, most)

small_from : (k : Catalogue) (n : ℕ) (ls : List Ledger) → HaveSound k ls
    → AllByRecursion (λ loan. principal_left_of loan
    ≤ 10 ^ 12) (loans_from k n ls)
small_from k n [] all = tt
small_from k n (l ∷ ls) all = (
  subst (λ rows. open_in 3 rows ≤ 10 ^ 12) (sym (sums_kept (account_in k l))) (small_rows (account_in k l) all.0),
  small_from k (n + 1) ls all.1,
)

count_from : (k : Catalogue) (n : ℕ) (ls : List Ledger) → length (loans_from k n ls) ≡ length ls
count_from k n [] = refl
count_from k n (l ∷ ls) = ap suc (count_from k (n + 1) ls)

pub within_from : (x : ℕ) (i : Institution) → IsSound i → AreWithinSums (loans_from i.catalogue 1 (rows_at x i).loans)
within_from x i sound =
    let k = i.catalogue in
    let ls = (rows_at x i).loans in
    let most = (office_sound k (is_staff i.offices) x i.offices sound.each).loan_limit in
    let count = count_from k 1 ls in
    record { few = omega (arith, most, count); small = small_from k 1 ls (office_accounts x i sound) }
