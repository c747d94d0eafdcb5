-- Rows that are numbered by their places, as rows of things with their numbers.
use Rattle.std.proofs.Common.{◌≡◌, ◌+◌, ℕ, true, List, [], ◌∷◌, map, filter, refl, ap, subst, ◌∙◌}
use Rattle.std.specs.List.{AllByRecursion, enumerate_from}
use Rattle.mf_model.specs.Institution.{Institution, Ledger}
use Rattle.mf_model.specs.Sound.{IsSound}
use Rattle.mf_model.specs.Store.{rows_at}
use Rattle.mf_store_schema.specs.Rows.{staff_row, client_row, loan_row, is_staff_of, is_client_of, is_loan_of}
use Rattle.mf_store_values.specs.Flat.{numbered_from, tables_of, staff_in, client_in, loan_in}
use Rattle.mf_store.proofs.OfficeRowsLemmas.{staff_shown, clients_shown}
use Rattle.mf_store.proofs.LoanLemmas.{IsLoanOf, counted, counted_there, loans_shown}

-- what is made of things and their numbers
pub numbered_is : {A R : Type 0} (make : ℕ → A → R) (n : ℕ) (xs : List A)
    → numbered_from make n xs ≡ map (λ (c : ℕ × A). make c.0 c.1) (enumerate_from n xs)
numbered_is make n [] = refl
numbered_is make n (x ∷ xs) = ap (λ l. make n x ∷ l) (numbered_is make (n + 1) xs)

-- loans with their numbers
pub counted_is : (n : ℕ) (ls : List Ledger) → counted n ls ≡ enumerate_from n ls
counted_is n [] = refl
counted_is n (l ∷ ls) = ap (λ rest. (n, l) ∷ rest) (counted_is (n + 1) ls)

-- all are chosen
pub all_filtered : {X : Type 0} (n : ℕ) (xs : List X)
    → filter (λ c. true) (enumerate_from n xs) ≡ enumerate_from n xs
all_filtered n [] = refl
all_filtered n (x ∷ xs) = ap (λ l. (n, x) ∷ l) (all_filtered (n + 1) xs)

pub all_chosen : {X Y : Type 0} (line : ℕ × X → Y) (n : ℕ) (xs : List X)
    → map line (filter (λ c. true) (enumerate_from n xs)) ≡ map line (enumerate_from n xs)
all_chosen line n xs = ap (map line) (all_filtered n xs)

-- the rows of an office's staff, of its clients and of its loans
pub staff_rows : (x n : ℕ) (i : Institution) → n ≡ x → IsSound i
    → map staff_row (filter (is_staff_of n) (tables_of i).staff)
    ≡ map (λ s. staff_row (staff_in x s.0 s.1)) (enumerate_from 1 (rows_at x i).staff)
staff_rows x n i is sound = ap (λ m. map staff_row (filter (is_staff_of m) (tables_of i).staff)) is
    ∙ staff_shown x i sound ∙ numbered_is (λ m s. staff_row (staff_in x m s)) 1 (rows_at x i).staff

pub client_rows : (x n : ℕ) (i : Institution) → n ≡ x → IsSound i
    → map client_row (filter (is_client_of n) (tables_of i).clients)
    ≡ map (λ c. client_row (client_in x c.0 c.1)) (enumerate_from 1 (rows_at x i).clients)
client_rows x n i is sound = ap (λ m. map client_row (filter (is_client_of m) (tables_of i).clients)) is
    ∙ clients_shown x i sound ∙ numbered_is (λ m name. client_row (client_in x m name)) 1 (rows_at x i).clients

pub loan_rows : (x n : ℕ) (i : Institution) → n ≡ x → IsSound i
    → map loan_row (filter (is_loan_of n) (tables_of i).loans)
    ≡ map (λ (l : ℕ × Ledger). loan_row (loan_in x l.0 l.1.loan)) (enumerate_from 1 (rows_at x i).loans)
loan_rows x n i is sound = ap (λ m. map loan_row (filter (is_loan_of m) (tables_of i).loans)) is
    ∙ loans_shown x i sound
    ∙ ap (map (λ (l : ℕ × Ledger). loan_row (loan_in x l.0 l.1.loan))) (counted_is 1 (rows_at x i).loans)

-- each loan is the one of its number
pub loans_there : (x : ℕ) (i : Institution) → AllByRecursion (IsLoanOf x i) (enumerate_from 1 (rows_at x i).loans)
loans_there x i = subst (AllByRecursion (IsLoanOf x i)) (counted_is 1 (rows_at x i).loans) (counted_there x i)
