-- The flat lists of the tables against the offices and their rows: one row found, and one row put.
use Rattle.std.proofs.Common.{◌≡◌, ◌+◌, ℕ, Bool, true, false, cond, List, [], ◌∷◌, ◌++◌, find, filter, length, map}
use Rattle.std.proofs.Common.{slice_get, Option}
use Rattle.std.proofs.Common.{None, Some, refl, sym, ap, ap₂, ◌∙◌, subst, arith, Ordering, Less, Equal, Greater, is_eq}
use Rattle.std.proofs.Common.{nat_cmp, ◌==◌, ◌≤◌, ◌<◌}
use Rattle.std.specs.List.{AllByRecursion}
use Rattle.std.specs.Option.{option_map}
use Rattle.std.specs.Ordering.{ordering_then}
use Rattle.std.proofs.lemmas.Bool.Decides.{nat_tests}
use Rattle.sqlite_keyed.proofs.ListLemmas.{slice_get-filter}
use Rattle.mf_alloc.specs.declared.row.Portion.{Portion}
use Rattle.mf_alloc.specs.declared.row.Portion.TheVariants as portion
use Rattle.mf_store_sql.specs.Keep.{put_item}
use Rattle.mf_model.specs.Institution.{Office, Rows, office_at, with_rows, with_office, no_rows, item_numbered}
use Rattle.mf_model.specs.Institution.{with_numbered}
use Rattle.mf_model.specs.Tree.{Ascending, is_there}
use Rattle.mf_model.specs.Store.{rows_of}
use Rattle.mf_store_values.specs.Flat.{numbered_from, all_rows, portion_number}
pub use Rattle.mf_store_values.proofs.BlockLemmas.{numbered-suc, with_numbered_later}
use Rattle.mf_store_values.proofs.BlockLemmas.{blocks_from, block_of, all_from, numbered_around, push_around}
use Rattle.mf_store_values.proofs.BlockLemmas.{filter_numbered, in_blocks, blocks_same, blocks_new, own, filter_own}
use Rattle.mf_store_values.proofs.BlockLemmas.{changed_around, pushed_around}
use Rattle.mf_store_values.proofs.PutLemmas.{put_around, put_over}

-- numbered rows are blocks of one row each
pub blocks_mapped : {A B R : Type 0} (f : B → R) (make : ℕ → A → B) (m : ℕ) (xs : List A)
    → map f (numbered_from make m xs) ≡ blocks_from (λ n a. f (make n a) ∷ []) m xs
blocks_mapped f make m [] = refl
blocks_mapped f make m (x ∷ xs) = ap (λ l. f (make m x) ∷ l) (blocks_mapped f make (m + 1) xs)

-- what holds of the row of each number holds of all
pub all_mapped : {A B R : Type 0} (P : R → Type 0) (f : B → R) (make : ℕ → A → B) (m : ℕ) → ((k : ℕ) (a : A) → m ≤ k
    → P (f (make k a))) → (xs : List A) → AllByRecursion P (map f (numbered_from make m xs))
all_mapped P f make m h xs = subst (AllByRecursion P) (sym (blocks_mapped f make m xs))
    (all_from (λ n a. f (make n a) ∷ []) P m xs (λ k a low. (h k a low, tt)))

-- ---- rows of one list, by number

module _ {A R : Type 0} (make : ℕ → A → R) where
  abbrev one : ℕ → A → List R
  one n a = make n a ∷ []

  numbered : (m : ℕ) (xs : List A) → numbered_from make m xs ≡ blocks_from one m xs
  numbered m [] = refl
  numbered m (x ∷ xs) = ap (λ l. make m x ∷ l) (numbered (m + 1) xs)

  first_passed : (p : R → Bool) (n : ℕ) → ((a : A) → p (make n a) ≡ true) → (o : Option A)
      → slice_get (filter p (block_of one n o)) 0 ≡ option_map (make n) o
  first_passed p n passes None = refl
  first_passed p n passes (Some a) = ap (λ b. slice_get (cond b (make n a ∷ []) []) 0) (passes a)

  -- a row by its number
  pub find_listed : (p : ℕ → R → Bool) → ((k m : ℕ) (a : A) → p k (make m a) ≡ is_eq (nat_cmp k m))
      → (k : ℕ) (xs : List A) → find (p k) (numbered_from make 1 xs) ≡ option_map (make k) (item_numbered xs k)
  find_listed p tests k xs =
      sym (slice_get-filter (p k) (numbered_from make 1 xs))
      ∙ ap (λ l. slice_get l 0) (ap (filter (p k)) (numbered 1 xs)
      ∙ filter_numbered one (p k) k (λ m a other. (
        tests k m a ∙ (let apart : is_eq (nat_cmp k m) ≡ false =
            grind (arith, nat_tests, other) in apart),
        tt,
      )) xs)
      ∙ first_passed (p k) k (λ a. tests k k a ∙ (let same : is_eq (nat_cmp k k) ≡ true = grind (arith, nat_tests) in
      same)) (item_numbered xs k)

  module _ (cmp : R → R → Ordering) (ranks : (n m : ℕ) (a b : A) → cmp (make n a) (make m b) ≡ nat_cmp n m) where
    lower : (n : ℕ) (a : A) (m : ℕ) (b : A) → m < n → AllByRecursion (λ s. cmp (make n a) s ≡ Greater) (one m b)
    lower n a m b low = (ranks n m a b ∙ grind (arith, nat_tests, low), tt)

    higher : (n : ℕ) (a : A) (m : ℕ) (b : A) → n < m → AllByRecursion (λ s. cmp (make n a) s ≡ Less) (one m b)
    higher n a m b high = (ranks n m a b ∙ grind (arith, nat_tests, high), tt)

    -- one more row, under the next number
    pub put_listed_last : (a : A) (xs : List A) → put_item cmp (make (length xs + 1) a) (numbered_from make 1 xs)
        ≡ numbered_from make 1 (xs ++ a ∷ [])
    put_listed_last a xs =
        let n = length xs + 1 in
        ap (put_item cmp (make n a)) (numbered 1 xs)
        ∙ put_around cmp (make n a) (λ s is. is) (λ s is. is) (push_around one (λ s. cmp (make n a) s ≡ Greater)
        (λ s. cmp (make n a) s ≡ Less) n (lower n a) (higher n a) 1 a xs (omega arith)) refl
        ∙ sym (numbered 1 (xs ++ a ∷ []))

    -- the row of this number, changed
    pub put_listed : (change : A → A) (a : A) (n : ℕ) (xs : List A) → item_numbered xs n ≡ Some a
        → put_item cmp (make n (change a)) (numbered_from make 1 xs) ≡ numbered_from make 1 (with_numbered n change xs)
    put_listed change a n xs at =
        let r = make n (change a) in
        ap (put_item cmp r) (numbered 1 xs)
        ∙ put_around cmp r (λ s h. h) (λ s h. h) (numbered_around one (λ s. cmp r s ≡ Greater) (λ s. cmp r s ≡ Less) n
        (lower n (change a)) (higher n (change a)) change a xs at)
        (put_over cmp r (make n a) [] (ranks n n (change a) a ∙ (let tied : nat_cmp n n ≡ Equal =
        grind (arith, nat_tests) in tied)) tt)
        ∙ sym (numbered 1 (with_numbered n change xs))

-- ---- rows of one kind, by office and number

module _ {A R : Type 0} (make : ℕ → ℕ → A → R) (of : Rows → List A) (none : of no_rows ≡ []) where
  abbrev alone : ℕ → ℕ → A → List R
  alone x n a = make x n a ∷ []

  in_rows : (fs : List Office) → all_rows make of fs ≡ in_blocks (own of none alone) fs
  in_rows [] = refl
  in_rows (f ∷ fs) = ap₂ ◌++◌ (numbered (make f.number) 1 (of f.rows)) (in_rows fs)

  -- a row by its office and number
  pub find_row : (p : ℕ → ℕ → R → Bool) → ((x k y m : ℕ) (a : A) → p x k (make y m a)
      ≡ is_eq (ordering_then (nat_cmp x y) (nat_cmp k m))) → (x k : ℕ) (fs : List Office) → Ascending fs
      → find (p x k) (all_rows make of fs) ≡ option_map (make x k) (item_numbered (of (rows_of (office_at x fs))) k)
  find_row p tests x k fs up =
      sym (slice_get-filter (p x k) (all_rows make of fs))
      ∙ ap (λ l. slice_get l 0) (ap (filter (p x k)) (in_rows fs)
      ∙ filter_own of none alone (p x k) x k (λ y m b other. (tests x k y m b ∙ other, tt)) fs up)
      ∙ first_passed (make x) (p x k) k (λ a. tests x k x k a
      ∙ (let same : is_eq (ordering_then (nat_cmp x x) (nat_cmp k k)) ≡ true = grind (arith, nat_tests) in same))
      (item_numbered (of (rows_of (office_at x fs))) k)

  module _ (cmp : R → R → Ordering) (ranks : (x n y m : ℕ) (a b : A) → cmp (make x n a) (make y m b)
      ≡ ordering_then (nat_cmp x y) (nat_cmp n m)) where
    -- one more row of an office, under its next number
    pub put_row_of : (x : ℕ) (a : A) (new : Rows) (fs : List Office) → Ascending fs → is_there fs x ≡ true
        → of new ≡ of (rows_of (office_at x fs)) ++ a ∷ []
        → put_item cmp (make x (length (of (rows_of (office_at x fs))) + 1) a) (all_rows make of fs)
        ≡ all_rows make of (with_rows x new fs)
    put_row_of x a new fs up there is =
        let n = length (of (rows_of (office_at x fs))) + 1 in
        ap (put_item cmp (make x n a)) (in_rows fs)
        ∙ put_around cmp (make x n a) (λ s h. h) (λ s h. h)
        (pushed_around of none alone (λ s. cmp (make x n a) s ≡ Greater)
        (λ s. cmp (make x n a) s ≡ Less) x n (λ y m b h. (ranks x n y m a b ∙ h, tt)) (λ y m b h. (
          ranks x n y m a b ∙ h,
          tt,
        )) new fs up a there refl is) refl
        ∙ sym (in_rows (with_rows x new fs))

    -- the row of this number of an office, changed
    pub put_over_of : (change : A → A) (a : A) (x n : ℕ) (new : Rows) (fs : List Office) → Ascending fs
        → item_numbered (of (rows_of (office_at x fs))) n ≡ Some a
        → of new ≡ with_numbered n change (of (rows_of (office_at x fs)))
        → put_item cmp (make x n (change a)) (all_rows make of fs) ≡ all_rows make of (with_rows x new fs)
    put_over_of change a x n new fs up at is =
        let c = change a in
        let r = make x n c in
        ap (put_item cmp r) (in_rows fs)
        ∙ put_around cmp r (λ s h. h) (λ s h. h) (changed_around of none alone (λ s. cmp r s ≡ Greater)
        (λ s. cmp r s ≡ Less) x n (λ y m b h. (ranks x n y m c b ∙ h, tt)) (λ y m b h. (
          ranks x n y m c b
              ∙ h,
          tt,
        )) new fs up change a at is) (put_over cmp r (make x n a) [] (ranks x n x n c a
        ∙ (let tied : ordering_then (nat_cmp x x) (nat_cmp n n) ≡ Equal = grind (arith, nat_tests) in tied)) tt)
        ∙ sym (in_rows (with_rows x new fs))

  -- where the rows of this kind are as they were
  pub same_rows_of : (x : ℕ) (new : Rows) (fs : List Office) → Ascending fs → of new ≡ of (rows_of (office_at x fs))
      → all_rows make of fs ≡ all_rows make of (with_rows x new fs)
  same_rows_of x new fs up is = in_rows fs ∙ blocks_same (own of none alone) x new fs up
      (ap (blocks_from (alone x) 1) is) ∙ sym (in_rows (with_rows x new fs))

  -- a new office has none
  pub no_rows_of : (new : Office) (fs : List Office) → new.rows ≡ no_rows → all_rows make of fs
      ≡ all_rows make of (with_office new fs)
  no_rows_of new fs is = in_rows fs ∙ blocks_new (own of none alone) new fs
      (ap (blocks_from (alone new.number) 1) (ap of is ∙ none)) ∙ sym (in_rows (with_office new fs))

-- ---- a number stands for one portion

abbrev pub portion_at : ℕ → Portion
portion_at n =
    cond (n == 1) portion.Penalty (cond (n == 2) portion.Fee (cond (n == 3) portion.Interest portion.Principal))

pub portion_read : (x : Portion) → portion_at (portion_number x) ≡ x
portion_read portion.Penalty = refl
portion_read portion.Fee = refl
portion_read portion.Interest = refl
portion_read portion.Principal = refl

pub portion_same : (a b : Portion) → portion_number a ≡ portion_number b → a ≡ b
portion_same a b e = sym (portion_read a) ∙ ap portion_at e ∙ portion_read b
