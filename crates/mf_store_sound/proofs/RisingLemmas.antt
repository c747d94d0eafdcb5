-- Rows that rise by their key, where it is a number, an office and a number, or an office, a loan and what follows.
use Rattle.std.proofs.Common.{◌≡◌, ◌<◌, ◌+◌, ◌∙◌, ℕ, List, [], ◌∷◌, map, Ordering, Less, nat_cmp, arith}
use Rattle.std.specs.List.{AllByRecursion}
use Rattle.std.specs.Ordering.{ordering_then}
use Rattle.std.proofs.lemmas.Bool.Decides.{nat_tests}
use Rattle.sqlite_keyed.proofs.ListLemmas.{all-append, all-map, ascending-append, ascending-map, ascending_weaker}
use Rattle.sqlite_trees.specs.Tree.{IsAscending}
use Rattle.mf_model.specs.Institution.{Ledger, Office, Rows}
use Rattle.mf_model.specs.Tree.{Above, Ascending}
use Rattle.mf_store_values.specs.Flat.{numbered_from, all_rows, rows_of_loans, rows_by_loan}
use Rattle.mf_store_values.proofs.LoanRowLemmas.{all_loans, all_offices}
use Rattle.mf_store_values.proofs.SortedLemmas.{first_less}
use Rattle.mf_store_sound.proofs.StoredLemmas.{numbered_each}

-- ---- orders of keys

pub lower : (n m : ℕ) → n < m → nat_cmp n m ≡ Less
lower n m h = grind (arith, nat_tests)

-- what follows decides where the first is the same
pub same_first : (x : ℕ) (o : Ordering) → ordering_then (nat_cmp x x) o ≡ o
same_first x o = grind (arith, nat_tests)

greater_number : (x n m : ℕ) (o : Ordering) → n < m → ordering_then (nat_cmp x x) (ordering_then (nat_cmp n m) o) ≡ Less
greater_number x n m o h = same_first x (ordering_then (nat_cmp n m) o) ∙ first_less n m o h

-- ---- rows by one number

module _ {A R : Type 0} (make : ℕ → A → R) (cmp : R → R → Ordering) (ranks : (n m : ℕ) (a b : A)
    → cmp (make n a) (make m b) ≡ nat_cmp n m) where
  pub numbered_rise : (n : ℕ) (xs : List A) → IsAscending (λ a b. cmp a b ≡ Less) (numbered_from make n xs)
  numbered_rise n [] = tt
  numbered_rise n (x ∷ xs) = (
    numbered_each make (λ r. cmp (make n x) r ≡ Less) (n + 1) xs (λ m a later. ranks n m x a
        ∙ lower n m (omega (arith, later))),
    numbered_rise (n + 1) xs,
  )

-- ---- rows by office and number

module _ {A R : Type 0} (make : ℕ → ℕ → A → R) (of : Rows → List A) (cmp : R → R → Ordering)
    (ranks : (x n y m : ℕ) (a b : A) → cmp (make x n a) (make y m b) ≡ ordering_then (nat_cmp x y) (nat_cmp n m)) where
  -- rows of greater offices come later
  all_after : (x n : ℕ) (a : A) (fs : List Office) → Above x fs
      → AllByRecursion (λ r. cmp (make x n a) r ≡ Less) (all_rows make of fs)
  all_after x n a [] up = tt
  all_after x n a (f ∷ fs) up = all-append (λ r. cmp (make x n a) r ≡ Less) (numbered_from (make f.number) 1
      (of f.rows)) (all_rows make of fs) (numbered_each (make f.number) (λ r. cmp (make x n a) r ≡ Less) 1 (of f.rows)
      (λ m b le. ranks x n f.number m a b ∙ first_less x f.number (nat_cmp n m) up.0)) (all_after x n a fs up.1)

  pub rows_rise : (fs : List Office) → Ascending fs → IsAscending (λ a b. cmp a b ≡ Less) (all_rows make of fs)
  rows_rise [] up = tt
  rows_rise (f ∷ fs) up = ascending-append (λ a b. cmp a b ≡ Less) (numbered_from (make f.number) 1 (of f.rows))
      (all_rows make of fs) (numbered_rise (make f.number) cmp (λ n m a b. ranks f.number n f.number m a b
      ∙ same_first f.number (nat_cmp n m)) 1 (of f.rows)) (rows_rise fs up.1) (numbered_each (make f.number)
      (λ r. AllByRecursion (λ s. cmp r s ≡ Less) (all_rows make of fs)) 1 (of f.rows)
      (λ n a le. all_after f.number n a fs up.0))

-- ---- rows by office, loan and what follows

module _ {A R : Type 0} (make : ℕ → ℕ → A → R) (of : Ledger → List A) (cmp : R → R → Ordering) (key : A → A → Ordering)
    (ranks : (x n y m : ℕ) (a b : A) → cmp (make x n a) (make y m b) ≡ ordering_then (nat_cmp x y)
    (ordering_then (nat_cmp n m) (key a b))) where
  abbrev Rises : List R → Type 0
  Rises = IsAscending (λ a b. cmp a b ≡ Less)

  abbrev AreRising : List A → Type 0
  AreRising = IsAscending (λ a b. key a b ≡ Less)

  one_loan : (x n : ℕ) (items : List A) → AreRising items → Rises (map (make x n) items)
  one_loan x n items up =
      ascending-map (λ a b. cmp a b ≡ Less) (make x n) items (ascending_weaker (λ a b. key a b ≡ Less)
      (λ a b. cmp (make x n a) (make x n b) ≡ Less) (λ a b h. ranks x n x n a b
      ∙ same_first x (ordering_then (nat_cmp n n) (key a b)) ∙ same_first n (key a b) ∙ h)
      items up)

  each_loan : (x n : ℕ) (ls : List Ledger) → AllByRecursion (λ (l : Ledger). AreRising (of l)) ls
      → Rises (rows_of_loans make of x n ls)
  each_loan x n [] up = tt
  each_loan x n (l ∷ ls) up =
      let rest = rows_of_loans make of x (n + 1) ls in
      ascending-append (λ a b. cmp a b ≡ Less) (map (make x n) (of l)) rest (one_loan x n (of l) up.0)
      (each_loan x (n + 1) ls up.1)
      (all-map (λ r. AllByRecursion (λ s. cmp r s ≡ Less) rest) (make x n)
      (λ a. all_loans make of (λ s. cmp (make x n a) s ≡ Less) x (n + 1) ls (λ m b low. ranks x n x m a b
      ∙ greater_number x n m (key a b) (omega (arith, low)))) (of l))

  -- the rows that each loan has rise, loan by loan and office by office, where those of one loan do
  pub by_loan_rise : (fs : List Office) → Ascending fs → AllByRecursion (λ (f : Office). AllByRecursion (λ (l : Ledger).
      AreRising (of l)) f.rows.loans) fs → Rises (rows_by_loan make of fs)
  by_loan_rise [] up each = tt
  by_loan_rise (f ∷ fs) up each =
      let rest = rows_by_loan make of fs in
      ascending-append (λ a b. cmp a b ≡ Less) (rows_of_loans make of f.number 1 f.rows.loans) rest
      (each_loan f.number 1 f.rows.loans each.0) (by_loan_rise fs up.1 each.1)
      (all_loans make of (λ r. AllByRecursion (λ s. cmp r s ≡ Less) rest) f.number 1 f.rows.loans (λ m a low.
      all_offices make of (λ s. cmp (make f.number m a) s ≡ Less) f.number fs up.0
      (λ y k b lt. ranks f.number m y k a b ∙ first_less f.number y (ordering_then (nat_cmp m k) (key a b)) lt)))
