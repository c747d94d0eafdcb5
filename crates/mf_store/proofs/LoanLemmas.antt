-- Loans: the lists of them, and their accounts.
use Rattle.std.proofs.Common.{◌≡◌, ◌<◌, ◌+◌, ℕ, zero, suc, true, false, ◌&&◌, List, [], ◌∷◌, map, filter, take, drop}
use Rattle.std.proofs.Common.{slice_get, Option, Some, IfSome, refl, sym, ap, ◌∙◌, subst, arith, is_eq, is_gt, nat_cmp}
use Rattle.std.specs.List.{AllByRecursion}
use Rattle.std.specs.Option.{option_map}
use Rattle.std.proofs.lemmas.List.{drop-map, take-map}
use Rattle.std.proofs.lemmas.Bool.{and_parts}
use Rattle.std.proofs.lemmas.Bool.Decides.{nat_tests}
use Rattle.sqlite_keyed.proofs.ListLemmas.{filter-filter, map-map}
use Rattle.mf_account.specs.declared.entry.Entry.{Entry}
use Rattle.mf_account.specs.Change.{KeptAccount, account_by_replay}
use Rattle.mf_catalog.specs.declared.terms.Terms.{Terms}
use Rattle.mf_office.specs.declared.account.Account.{Account}
use Rattle.mf_model.specs.declared.loan.Loan.{Loan}
use Rattle.mf_model.specs.declared.loan.LoanLine.{LoanLine}
use Rattle.mf_model.specs.declared.loan.Stage.TheVariants.{Submitted}
use Rattle.mf_model.specs.Accounts.{of_account, running_loan, running_from, terms_in}
use Rattle.mf_model.specs.Institution.{Institution, Catalogue, Ledger, item_numbered}
use Rattle.mf_model.specs.Loans.{lines_from, lines_above}
use Rattle.mf_model.specs.Sound.{IsSound}
use Rattle.mf_model.specs.Stages.{disbursed_on}
use Rattle.mf_model.specs.Store.{rows_at, ledger_at, loan_at, account_at, account_of}
use Rattle.mf_store_schema.specs.Rows.{loan_row, is_loan_of, is_loan_above}
use Rattle.mf_store_schema.specs.declared.loans.LoanRow.{LoanRow}
use Rattle.mf_store_values.specs.Flat.{tables_of, numbered_from, loan_in, loans_of, line_in, ledger_entries}
use Rattle.mf_store_values.specs.Flat.{instalments_kept, kept_of}
use Rattle.mf_store_values.proofs.FlatLemmas.{numbered-suc}
use Rattle.mf_store.proofs.OfficeRowsLemmas.{rows_in_office}
use Rattle.mf_store_commits.proofs.LoanLemmas.{loan_of}
use Rattle.mf_store.proofs.CatalogueLemmas.{mapped}

-- ---- lists of loans

-- loans with their numbers
abbrev pub counted : ℕ → List Ledger → List (ℕ × Ledger)
counted = numbered_from (λ n l. (n, l))

rows_counted : (x n : ℕ) (ls : List Ledger) → numbered_from (loan_in x) n (map loan_of ls)
    ≡ map (λ (l : ℕ × Ledger). loan_in x l.0 l.1.loan) (counted n ls)
rows_counted x n [] = refl
rows_counted x n (l ∷ ls) = ap (λ rest. loan_in x n l.loan ∷ rest) (rows_counted x (n + 1) ls)

lines_counted : (k : Catalogue) (x n : ℕ) (ls : List Ledger) → lines_from k x n ls
    ≡ map (λ (l : ℕ × Ledger). line_in k x l.0 l.1) (counted n ls)
lines_counted k x n [] = refl
lines_counted k x n (l ∷ ls) = ap (λ rest. line_in k x n l ∷ rest) (lines_counted k x (n + 1) ls)

all_above : (x after m : ℕ) (ls : List Loan) → after < m → filter (is_loan_above x after)
    (numbered_from (loan_in x) m ls) ≡ numbered_from (loan_in x) m ls
all_above x after m [] h = refl
all_above x after m (l ∷ ls) h = let here : (is_eq (nat_cmp x x) && is_gt (nat_cmp m after)) ≡ true =
    grind (arith, nat_tests) in rw (here, all_above x after (m + 1) ls (omega arith))

above_dropped : (x after m k : ℕ) (ls : List Loan) → m + k ≡ after + 1 → filter (is_loan_above x after)
    (numbered_from (loan_in x) m ls) ≡ drop k (numbered_from (loan_in x) m ls)
above_dropped x after m zero ls e = all_above x after m ls (omega arith)
above_dropped x after m (suc k) [] e = refl
above_dropped x after m (suc k) (l ∷ ls) e = let past : (is_eq (nat_cmp x x) && is_gt (nat_cmp m after)) ≡ false =
    grind (arith, nat_tests) in rw past (above_dropped x after (m + 1) k ls (omega arith))

-- the loans that a list of an office shows
abbrev pub shown_loans : ℕ → List Ledger → List (ℕ × Ledger)
shown_loans after ls = take 100 (drop after (counted 1 ls))

pub loans_shown : (x : ℕ) (i : Institution) → IsSound i → map loan_row (filter (is_loan_of x) (tables_of i).loans)
    ≡ map (λ (l : ℕ × Ledger). loan_row (loan_in x l.0 l.1.loan)) (counted 1 (rows_at x i).loans)
loans_shown x i sound =
    ap (map loan_row) (rows_in_office loan_in loans_of refl is_loan_of (λ x y m a. refl) x i.offices
    sound.tree.ascending ∙ rows_counted x 1 (rows_at x i).loans)
    ∙ map-map loan_row (λ (l : ℕ × Ledger). loan_in x l.0 l.1.loan) (counted 1 (rows_at x i).loans)

pub above_shown : (x after : ℕ) (i : Institution) → IsSound i
    → take 100 (map loan_row (filter (is_loan_above x after) (tables_of i).loans))
    ≡ map (λ (l : ℕ × Ledger). loan_row (loan_in x l.0 l.1.loan)) (shown_loans after (rows_at x i).loans)
above_shown x after i sound =
    ap (λ l. take 100 (map loan_row l)) (sym (filter-filter (is_loan_above x after) (is_loan_of x)
    (λ r h. (and_parts _ _ h).0) (tables_of i).loans)
    ∙ ap (filter (is_loan_above x after)) (rows_in_office loan_in loans_of refl is_loan_of (λ x y m a. refl) x i.offices
    sound.tree.ascending) ∙ above_dropped x after 1 after (map loan_of loans) (omega arith)
    ∙ ap (drop after) (rows_counted x 1 loans) ∙ drop-map row after (counted 1 loans))
    ∙ ap (take 100) (map-map loan_row row (drop after (counted 1 loans)))
    ∙ take-map (λ (l : ℕ × Ledger). loan_row (loan_in x l.0 l.1.loan)) 100 (drop after (counted 1 loans))
  where
    loans : List Ledger
    loans = (rows_at x i).loans

    row : ℕ × Ledger → LoanRow
    row l = loan_in x l.0 l.1.loan

pub lines_shown : (k : Catalogue) (x after : ℕ) (ls : List Ledger) → map (λ (l : ℕ × Ledger). line_in k x l.0 l.1)
    (shown_loans after ls) ≡ lines_above k x after ls
lines_shown k x after ls = sym (ap (λ l. take 100 (drop after l)) (lines_counted k x 1 ls)
    ∙ ap (take 100) (drop-map line after (counted 1 ls)) ∙ take-map line 100 (drop after (counted 1 ls)))
  where
    line : ℕ × Ledger → LoanLine
    line l = line_in k x l.0 l.1

pub counted_loans : (n : ℕ) (ls : List Ledger) → map (λ (l : ℕ × Ledger). l.1) (counted n ls) ≡ ls
counted_loans n [] = refl
counted_loans n (l ∷ ls) = ap (λ rest. l ∷ rest) (counted_loans (n + 1) ls)

-- a loan of an office under its number
abbrev pub IsLoanOf : ℕ → Institution → ℕ × Ledger → Type 0
IsLoanOf x i l = ledger_at (record { office = x; number = l.0 }) i ≡ Some l.1

counted_all : (P : ℕ × Ledger → Type 0) (n : ℕ) (ls : List Ledger) → ((d : ℕ) (l : Ledger) → slice_get ls d ≡ Some l
    → P (n + d, l)) → AllByRecursion P (counted n ls)
counted_all P n [] h = tt
counted_all P n (l ∷ ls) h = (
  subst (λ m. P (m, l)) (let same : n + 0 ≡ n = omega arith in same) (h 0 l refl),
  counted_all P (n + 1) ls (λ d k e. subst (λ m. P (m, k)) (let same : n + suc d ≡ n + 1 + d = omega arith in same)
      (h (suc d) k e)),
)

pub counted_there : (x : ℕ) (i : Institution) → AllByRecursion (IsLoanOf x i) (counted 1 (rows_at x i).loans)
counted_there x i =
    counted_all (IsLoanOf x i) 1 (rows_at x i).loans (λ d l e. subst (λ m. item_numbered (rows_at x i).loans m ≡ Some l)
    (let same : suc d ≡ 1 + d = omega arith in same) (numbered-suc (rows_at x i).loans d ∙ e))

all_dropped : {A : Type 0} (P : A → Type 0) (n : ℕ) (xs : List A) → AllByRecursion P xs → AllByRecursion P (drop n xs)
all_dropped P zero xs a = a
all_dropped P (suc n) [] a = tt
all_dropped P (suc n) (x ∷ xs) a = all_dropped P n xs a.1

all_taken : {A : Type 0} (P : A → Type 0) (n : ℕ) (xs : List A) → AllByRecursion P xs → AllByRecursion P (take n xs)
all_taken P zero xs a = tt
all_taken P (suc n) [] a = tt
all_taken P (suc n) (x ∷ xs) a = (a.0, all_taken P n xs a.1)

pub shown_there : (x after : ℕ) (i : Institution) → AllByRecursion (IsLoanOf x i)
    (shown_loans after (rows_at x i).loans)
shown_there x after i = all_taken (IsLoanOf x i) 100 (drop after (counted 1 (rows_at x i).loans))
    (all_dropped (IsLoanOf x i) after (counted 1 (rows_at x i).loans) (counted_there x i))

-- ---- rows that are read in turn

pub no_loan : ℕ × Ledger
no_loan = (
  0,
  record {
    loan = record { client = 0; product = 0; principal = 0; periods = 0; stage = Submitted };
    entries = [];
  },
)

-- ---- accounts

-- what is replayed of a loan's terms and its entries
pub replay_is : (named : Option Terms) (loan : Loan) (day : ℕ) (entries : List Entry) (terms : Terms)
    (found : Option KeptAccount) (a : KeptAccount) → named ≡ Some terms
    → IfSome found (λ (b : KeptAccount). b ≡ account_by_replay (running_loan loan entries day terms)) → found ≡ Some a
    → option_map account_by_replay (running_from loan entries (Some day) named) ≡ Some a
replay_is named loan day entries terms found a term made is =
    ap (λ t. option_map account_by_replay (running_from loan entries (Some day) t)) term
    ∙ ap Some (sym
    (subst (λ o. IfSome o (λ (b : KeptAccount). b ≡ account_by_replay (running_loan loan entries day terms))) is made))

-- the instalments of a loan that was just disbursed
pub fresh_rows : (k : Catalogue) (loan : Loan) (day : ℕ) (es : List Entry) (a : KeptAccount)
    → option_map account_by_replay
    (running_from loan es (Some day) (terms_in k loan.product)) ≡ Some a → es ≡ [] → disbursed_on loan.stage ≡ Some day
    → kept_of instalments_kept k (record { loan = loan; entries = [] }) ≡ numbered_from (λ n row. (n, row)) 1
    a.state.rows
fresh_rows k loan day es a is none disbursed =
    let of = mapped account_by_replay (running_from loan es (Some day) (terms_in k loan.product)) a is in
    (λ t. of_account [] instalments_kept (running_from loan (sym none t) (disbursed t) (terms_in k loan.product)))
    ∙ ap (of_account [] instalments_kept) of.1
    ∙ ap (λ (b : KeptAccount). numbered_from (λ n row. (n, row)) 1 b.state.rows) (sym of.2)

-- what is replayed of a loan's row and its entries is its account
pub account_replayed : (i : Institution) (account : Account) (loan : Loan) (day : ℕ) (entries : List Entry)
    (a : KeptAccount)
    → entries ≡ ledger_entries (ledger_at account i)
    → option_map account_by_replay (running_from loan entries (Some day)
    (terms_in i.catalogue loan.product)) ≡ Some a
    → loan_at account i ≡ Some loan → disbursed_on loan.stage ≡ Some day → account_at account i ≡ Some a
account_replayed i account loan day entries a entered is there disbursed =
    let k = i.catalogue in
    let of = mapped loan_of (ledger_at account i) loan there in
    ap (λ o. option_map account_by_replay (account_of k o)) of.1
    ∙ (λ t. option_map account_by_replay (running_from (sym of.2 t) of.0.entries (disbursed_on (sym of.2 t).stage)
    (terms_in k (sym of.2 t).product)))
    ∙ (λ t. option_map account_by_replay (running_from loan (sym (entered ∙ ap ledger_entries of.1) t) (disbursed t)
    (terms_in k loan.product))) ∙ is
