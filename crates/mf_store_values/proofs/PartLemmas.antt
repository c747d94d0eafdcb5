-- Rows of one owner after another, apart.
use Rattle.std.proofs.Common.{◌≡◌, ◌<◌, ◌+◌, ℕ, true, false, List, [], ◌∷◌, ◌++◌, map, length, get_or, drop}
use Rattle.std.proofs.Common.{Option, refl, sym, ap, arith, ◌==◌, Bool}
use Rattle.std.specs.List.{AllByRecursion, prefix_len}
use Rattle.std.proofs.lemmas.Bool.Decides.{nat_tests}
use Rattle.std.proofs.lemmas.List.{take_at, drop_at}
use Rattle.std.proofs.lemmas.List.Sums.{prefix_len-drop_yes, prefix_len-drop_no}
use Rattle.sqlite_keyed.proofs.ListLemmas.{all-append, all-map, all_weaker}
use Rattle.mf_model.specs.Institution.{Ledger, Office, Rows}
use Rattle.mf_model.specs.Tree.{Above}
use Rattle.mf_store_values.specs.Accounts.{first_rows, later_rows}
use Rattle.mf_store_values.specs.Flat.{office_under, numbered_from, all_rows, rows_of_loans, rows_by_loan}
use Rattle.mf_store_values.specs.Parts.{own_count, own, later, office_of, bare}

-- rows that pass, before rows of which none does
module _ {R : Type 0} (p : R → Bool) where
  length_first : (xs rest : List R) → AllByRecursion (λ r. p r ≡ true) xs → AllByRecursion (λ r. p r ≡ false) rest
      → prefix_len p (xs ++ rest) ≡ length xs
  length_first [] [] all none = refl
  length_first [] (r ∷ rest) all none = rw none.0
  length_first (r ∷ xs) rest all none = rw all.0 (let more = length_first xs rest all.1 none in omega (arith, more))

  pub blocks : (xs rest : List R) → AllByRecursion (λ r. p r ≡ true) xs → AllByRecursion (λ r. p r ≡ false) rest
      → (first_rows p (xs ++ rest) ≡ xs) × (later_rows p (xs ++ rest) ≡ rest)
  blocks xs rest all none =
      let is = length_first xs rest all none in
      (take_at xs rest _ (sym is), drop_at xs rest _ (sym is))

module _ {R : Type 0} (owner : R → ℕ) (x : ℕ) where
  at_own : (r : R) → owner r ≡ x → (owner r == x) ≡ true
  at_own r same = grind (arith, nat_tests)

  at_other : (r : R) → x < owner r → (owner r == x) ≡ false
  at_other r low = grind (arith, nat_tests)

  -- rows of one owner, before rows of owners with greater numbers
  own_blocks : (xs rest : List R) → AllByRecursion (λ r. owner r ≡ x) xs → AllByRecursion (λ r. x < owner r) rest
      → (own owner x (xs ++ rest) ≡ xs) × (later owner x (xs ++ rest) ≡ rest)
  own_blocks xs rest all above = blocks (λ r. owner r == x) xs rest (all_weaker _ _ at_own xs all)
      (all_weaker _ _ at_other rest above)

  -- how many are its own from this place on
  pub own_here : (rows : List R) (i : ℕ) (r : R) → i < length rows → r ≡ get_or rows i r → owner r ≡ x
      → own_count owner x (drop i rows) ≡ 1 + own_count owner x (drop (i + 1) rows)
  own_here rows i r h is same = prefix_len-drop_yes (λ q. owner q == x) rows i r h (rw (← is) (at_own r same))

  pub none_here : (rows : List R) (i : ℕ) (r : R) → i < length rows → r ≡ get_or rows i r → (owner r == x) ≡ false
      → own_count owner x (drop i rows) ≡ 0
  none_here rows i r h is apart = prefix_len-drop_no (λ q. owner q == x) rows i r h (rw (← is) apart)

-- ---- rows of one kind, office by office
module _ {A R : Type 0} (make : ℕ → ℕ → A → R) (of : Rows → List A) (office : R → ℕ) (belongs : (x n : ℕ) (a : A)
    → office (make x n a) ≡ x) where
  all_numbered : (P : R → Type 0) (x : ℕ) → ((n : ℕ) (a : A) → P (make x n a)) → (n : ℕ) (xs : List A)
      → AllByRecursion P (numbered_from (make x) n xs)
  all_numbered P x each n [] = tt
  all_numbered P x each n (a ∷ xs) = (each n a, all_numbered P x each (n + 1) xs)

  all_above : (x : ℕ) (fs : List Office) → Above x fs → AllByRecursion (λ r. x < office r) (all_rows make of fs)
  all_above x [] h = tt
  all_above x (f ∷ fs) h =
      all-append (λ r. x < office r) (numbered_from (make f.number) 1 (of f.rows)) (all_rows make of fs)
      (all_numbered (λ r. x < office r) f.number (λ n a. rw belongs h.0) 1 (of f.rows)) (all_above x fs h.1)

  pub own_of_first : (f : Office) (fs : List Office) → Above f.number fs
      → own office f.number (all_rows make of (f ∷ fs)) ≡ numbered_from (make f.number) 1 (of f.rows)
  own_of_first f fs h = (own_blocks office f.number _ _ (all_numbered (λ r. office r ≡ f.number) f.number
      (belongs f.number) 1 (of f.rows)) (all_above f.number fs h)).0

  pub later_of_first : (f : Office) (fs : List Office) → Above f.number fs
      → later office f.number (all_rows make of (f ∷ fs)) ≡ all_rows make of fs
  later_of_first f fs h = (own_blocks office f.number _ _ (all_numbered (λ r. office r ≡ f.number) f.number
      (belongs f.number) 1 (of f.rows)) (all_above f.number fs h)).1

-- ---- rows of what loans have, loan by loan and office by office
module _ {A R : Type 0} (make : ℕ → ℕ → A → R) (of : Ledger → List A) where
  module _ (loan : R → ℕ) (belongs : (x n : ℕ) (a : A) → loan (make x n a) ≡ n) where
    loans_above : (x n m : ℕ) (ls : List Ledger) → n < m
        → AllByRecursion (λ r. n < loan r) (rows_of_loans make of x m ls)
    loans_above x n m [] h = tt
    loans_above x n m (l ∷ ls) h =
        all-append (λ r. n < loan r) (map (make x m) (of l)) (rows_of_loans make of x (m + 1) ls)
        (all-map (λ r. n < loan r) (make x m) (λ a. rw belongs h) (of l)) (loans_above x n (m + 1) ls (omega arith))

    pub own_of_loan : (x n : ℕ) (l : Ledger) (ls : List Ledger) → own loan n (rows_of_loans make of x n (l ∷ ls))
        ≡ map (make x n) (of l)
    own_of_loan x n l ls = (own_blocks loan n _ _ (all-map (λ r. loan r ≡ n) (make x n) (belongs x n) (of l))
        (loans_above x n (n + 1) ls (omega arith))).0

    pub later_of_loan : (x n : ℕ) (l : Ledger) (ls : List Ledger) → later loan n (rows_of_loans make of x n (l ∷ ls))
        ≡ rows_of_loans make of x (n + 1) ls
    later_of_loan x n l ls = (own_blocks loan n _ _ (all-map (λ r. loan r ≡ n) (make x n) (belongs x n) (of l))
        (loans_above x n (n + 1) ls (omega arith))).1

  module _ (office : R → ℕ) (belongs : (x n : ℕ) (a : A) → office (make x n a) ≡ x) where
    all_loans : (P : R → Type 0) (x : ℕ) → ((n : ℕ) (a : A) → P (make x n a)) → (n : ℕ) (ls : List Ledger)
        → AllByRecursion P (rows_of_loans make of x n ls)
    all_loans P x each n [] = tt
    all_loans P x each n (l ∷ ls) = all-append P (map (make x n) (of l)) (rows_of_loans make of x (n + 1) ls)
        (all-map P (make x n) (each n) (of l)) (all_loans P x each (n + 1) ls)

    offices_above : (x : ℕ) (fs : List Office) → Above x fs
        → AllByRecursion (λ r. x < office r) (rows_by_loan make of fs)
    offices_above x [] h = tt
    offices_above x (f ∷ fs) h =
        all-append (λ r. x < office r) (rows_of_loans make of f.number 1 f.rows.loans) (rows_by_loan make of fs)
        (all_loans (λ r. x < office r) f.number (λ n a. rw belongs h.0) 1 f.rows.loans) (offices_above x fs h.1)

    pub own_of_office : (f : Office) (fs : List Office) → Above f.number fs
        → own office f.number (rows_by_loan make of (f ∷ fs)) ≡ rows_of_loans make of f.number 1 f.rows.loans
    own_of_office f fs h = (own_blocks office f.number _ _ (all_loans (λ r. office r ≡ f.number) f.number
        (belongs f.number) 1 f.rows.loans) (offices_above f.number fs h)).0

    pub later_of_office : (f : Office) (fs : List Office) → Above f.number fs
        → later office f.number (rows_by_loan make of (f ∷ fs)) ≡ rows_by_loan make of fs
    later_of_office f fs h = (own_blocks office f.number _ _ (all_loans (λ r. office r ≡ f.number) f.number
        (belongs f.number) 1 f.rows.loans) (offices_above f.number fs h)).1

-- ---- offices, with none of the rows that belong to them

pub heads_of : (parents : ℕ → Option ℕ) (fs : List Office) → map office_of (map (office_under parents) fs) ≡ map bare fs
heads_of parents [] = refl
heads_of parents (f ∷ fs) = ap (λ gs. bare f ∷ gs) (heads_of parents fs)
