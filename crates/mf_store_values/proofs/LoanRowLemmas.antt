-- Rows that a table keeps loan by loan, within each office.
use Rattle.std.proofs.Common.{Greater, Less, ◌≡◌, ◌<◌, ◌≤◌, ◌+◌, ◌-◌, ℕ, Bool, true, false, cond, List, [], ◌∷◌, ◌++◌}
use Rattle.std.proofs.Common.{map, filter}
use Rattle.std.proofs.Common.{Option, None, Some, refl, sym, ap, ap₂, ◌∙◌, subst, arith, Ordering, is_eq}
use Rattle.std.proofs.Common.{nat_cmp, ◌==◌}
use Rattle.std.specs.List.{AllByRecursion}
use Rattle.std.specs.Ordering.{ordering_then}
use Rattle.std.proofs.lemmas.Bool.Decides.{nat_tests}
use Rattle.sqlite_keyed.proofs.ListLemmas.{all-map, filter_all}
use Rattle.mf_model.specs.Institution.{Ledger, Office, Rows, office_at, with_rows, with_office, no_rows, item_numbered}
use Rattle.mf_model.specs.Institution.{with_numbered}
use Rattle.mf_model.specs.Store.{rows_of}
use Rattle.mf_model.specs.Tree.{Above, Ascending}
use Rattle.mf_store_values.specs.Flat.{rows_of_loans, rows_by_loan, had_by}
use Rattle.mf_store_values.proofs.BlockLemmas.{AroundAt, blocks_from, block_of, all_from, in_blocks, all_above}
use Rattle.mf_store_values.proofs.BlockLemmas.{blocks_same, blocks_new, own, changed_around, filter_own}

module _ {A R : Type 0} (make : ℕ → ℕ → A → R) where
  -- ---- the rows of one loan

  module _ (of : Ledger → List A) where
    abbrev pub block : ℕ → ℕ → Ledger → List R
    block x n l = map (make x n) (of l)

    -- the rows of an office's loans
    abbrev office : ℕ → Rows → List R
    office = own (λ rows. rows.loans) refl block

    in_office : (x n : ℕ) (ls : List Ledger) → rows_of_loans make of x n ls ≡ blocks_from (block x) n ls
    in_office x n [] = refl
    in_office x n (l ∷ ls) = ap (λ rest. block x n l ++ rest) (in_office x (n + 1) ls)

    in_loans : (fs : List Office) → rows_by_loan make of fs ≡ in_blocks office fs
    in_loans [] = refl
    in_loans (f ∷ fs) = ap₂ ◌++◌ (in_office f.number 1 f.rows.loans) (in_loans fs)

    -- what holds of each row of these loans
    pub all_loans : (P : R → Type 0) (x n : ℕ) (ls : List Ledger) → ((m : ℕ) (a : A) → n ≤ m → P (make x m a))
        → AllByRecursion P (rows_of_loans make of x n ls)
    all_loans P x n ls h = subst (AllByRecursion P) (sym (in_office x n ls))
        (all_from (block x) P n ls (λ m l low. all-map P (make x m) (λ a. h m a low) (of l)))

    -- what holds of each row of offices above x
    pub all_offices : (P : R → Type 0) (x : ℕ) (fs : List Office) → Above x fs → ((y m : ℕ) (a : A) → x < y
        → P (make y m a)) → AllByRecursion P (rows_by_loan make of fs)
    all_offices P x fs up h = subst (AllByRecursion P) (sym (in_loans fs)) (all_above office P x fs up (λ y rows low.
        all_from (block y) P 1 rows.loans (λ m l least. all-map P (make y m) (λ a. h y m a low) (of l))))

    -- the rows of a loan are those of what it has
    pub loan_shown : (has : ℕ → ℕ → R → Bool) → ((x n y m : ℕ) (a : A) → has x n (make y m a)
        ≡ is_eq (ordering_then (nat_cmp x y) (nat_cmp n m))) → (x n : ℕ) (fs : List Office) → Ascending fs
        → filter (has x n) (rows_by_loan make of fs)
        ≡ map (make x n) (had_by of (item_numbered (rows_of (office_at x fs)).loans n))
    loan_shown has owns x n fs up =
        ap (filter (has x n)) (in_loans fs) ∙ filter_own (λ rows. rows.loans) refl block (has x n) x n
        (λ y m l other. all-map (λ r. has x n r ≡ false) (make y m) (λ a. owns x n y m a ∙ other) (of l)) fs up
        ∙ all_passed (item_numbered (rows_of (office_at x fs)).loans n)
      where
        same : is_eq (ordering_then (nat_cmp x x) (nat_cmp n n)) ≡ true
        same = grind (arith, nat_tests)

        all_passed : (o : Option Ledger) → filter (has x n) (block_of (block x) n o) ≡ map (make x n) (had_by of o)
        all_passed None = refl
        all_passed (Some l) = filter_all (has x n) (block x n l) (all-map (λ r. has x n r ≡ true) (make x n)
            (λ a. owns x n x n a ∙ same) (of l))

    -- one loan of an office becomes another
    pub rows_around : (place : ℕ → ℕ → R → Ordering) (keyed : (x n y m : ℕ) (a : A) → place x n (make y m a)
        ≡ ordering_then (nat_cmp x y) (nat_cmp n m)) (x n : ℕ) (change : Ledger → Ledger) (l : Ledger) (new : Rows)
        (fs : List Office) → Ascending fs → item_numbered (rows_of (office_at x fs)).loans n ≡ Some l
        → new.loans ≡ with_numbered n change (rows_of (office_at x fs)).loans
        → AroundAt (place x n) (rows_by_loan make of fs) (rows_by_loan make of (with_rows x new fs))
        (map (make x n) (of l)) (map (make x n) (of (change l)))
    rows_around place keyed x n change l new fs up at is =
        subst (λ (in_all : List Office → List R). AroundAt (place x n) (in_all fs) (in_all (with_rows x new fs))
        (block x n l) (block x n (change l))) (λ t gs. sym (in_loans gs) t)
        (changed_around (λ rows. rows.loans) refl block (λ s. place x n s ≡ Greater) (λ s. place x n s ≡ Less) x n
        (λ y m l h. all-map (λ s. place x n s ≡ Greater) (make y m) (λ a. keyed x n y m a ∙ h) (of l))
        (λ y m l h. all-map (λ s. place x n s ≡ Less) (make y m) (λ a. keyed x n y m a ∙ h) (of l)) new fs up change l
        at is)

  -- ---- where no loan's rows change

  -- the same rows, loan by loan
  abbrev pub HaveSame : (Ledger → List A) → (Ledger → List A) → List Ledger → List Ledger → Type 0
  HaveSame of also ls ks = (x n : ℕ) → rows_of_loans make of x n ls ≡ rows_of_loans make also x n ks

  pub same_by_loan : (of : Ledger → List A) (x : ℕ) (new : Rows) (fs : List Office) → Ascending fs
      → HaveSame of of new.loans (rows_of (office_at x fs)).loans → rows_by_loan make of fs ≡ rows_by_loan make of
      (with_rows x new fs)
  same_by_loan of x new fs up is = in_loans of fs ∙ blocks_same (office of) x new fs up
      (sym (in_office of x 1 new.loans) ∙ is x 1 ∙ in_office of x 1 (rows_of (office_at x fs)).loans)
      ∙ sym (in_loans of (with_rows x new fs))

  -- one more loan, which has none
  pub one_more_loan : (of : Ledger → List A) (new : Ledger) (ls : List Ledger) → of new ≡ []
      → HaveSame of of (ls ++ new ∷ []) ls
  one_more_loan of new [] none x n = ap (λ items. map (make x n) items ++ []) none
  one_more_loan of new (l ∷ ls) none x n =
      ap (λ rest. map (make x n) (of l) ++ rest) (one_more_loan of new ls none x (n + 1))

  -- a change that no loan's rows depend on
  pub change_alone : (of : Ledger → List A) (k : ℕ) (change : Ledger → Ledger) (ls : List Ledger)
      → ((l : Ledger) → of (change l) ≡ of l) → HaveSame of of (with_numbered k change ls) ls
  change_alone of k change [] alone x n = refl
  change_alone of k change (l ∷ ls) alone x n = go (k == 1) (change_alone of (k - 1) change ls alone x (n + 1))
    where
      go : (b : Bool) → rows_of_loans make of x (n + 1) (with_numbered (k - 1) change ls) ≡ rows_of_loans make of x
          (n + 1) ls → rows_of_loans make of x n (cond b (change l ∷ ls) (l ∷ with_numbered (k - 1) change ls))
          ≡ rows_of_loans make of x n (l ∷ ls)
      go true more = ap (λ items. map (make x n) items ++ rows_of_loans make of x (n + 1) ls) (alone l)
      go false more = ap (λ rest. map (make x n) (of l) ++ rest) more

  -- a new office has none
  pub none_in_office : (of : Ledger → List A) (new : Office) (fs : List Office) → new.rows ≡ no_rows
      → rows_by_loan make of fs ≡ rows_by_loan make of (with_office new fs)
  none_in_office of new fs is = in_loans of fs ∙ blocks_new (office of) new fs
      (ap (λ (rows : Rows). office of new.number rows) is) ∙ sym (in_loans of (with_office new fs))
