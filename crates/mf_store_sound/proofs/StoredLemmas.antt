-- Rows that a loop decides from the front, and rows of values, one by one and all together.
use Rattle.std.proofs.Common.{◌≡◌, ◌↔◌, ◌<◌, ◌≤◌, ◌+◌, ◌∙◌, ℕ, suc, Bool, false, List, [], ◌∷◌, ◌++◌, length, get_or}
use Rattle.std.proofs.Common.{drop, IsTrue, Option, refl, sym, ap, subst, true≢false, arith, ◌==◌}
use Rattle.std.specs.List.{AllByRecursion}
use Rattle.std.specs.Option.{option_map}
use Rattle.std.proofs.lemmas.Bool.Decides.{nat_tests}
use Rattle.std.proofs.lemmas.List.{drop_all}
use Rattle.sqlite_trees.specs.Tree.{IsAscending}
use Rattle.mf_model.specs.Institution.{item_numbered}
use Rattle.mf_store_values.specs.Flat.{numbered_from}
use Rattle.mf_store_values.proofs.MadeLemmas.{at_row}
use Rattle.mf_store_values.proofs.NumberedLemmas.{numbered_row}
use Rattle.mf_store_sound.specs.Stored.{IsRowOf, AllFrom}

-- nothing is left
pub nothing_is : {R : Type 0} (rows : List R) (b : Bool) → b ≡ (length rows == 0) → IsTrue b ↔ (rows ≡ [])
nothing_is [] b e = (λ t. refl, λ t. e)
nothing_is (r ∷ rs) b e =
    let some : (suc (length rs) == 0) ≡ false = grind (arith, nat_tests) in
    (λ yes. absurd (true≢false (sym yes ∙ e ∙ some)), λ is. absurd (cc))

-- ---- two lists in one

pub all_parts : {A : Type 0} (P : A → Type 0) (xs ys : List A) → AllByRecursion P (xs ++ ys)
    → AllByRecursion P xs × AllByRecursion P ys
all_parts P [] ys all = (tt, all)
all_parts P (x ∷ xs) ys all = let more = all_parts P xs ys all.1 in ((all.0, more.0), more.1)

pub ascending_parts : {A : Type 0} (R : A → A → Type 0) (xs ys : List A) → IsAscending R (xs ++ ys)
    → IsAscending R xs × IsAscending R ys
ascending_parts R [] ys up = (tt, up)
ascending_parts R (x ∷ xs) ys up =
    let more = ascending_parts R xs ys up.1 in (((all_parts (R x) xs ys up.0).0, more.0), more.1)

-- ---- what a loop asks of the rows that are left

module _ {R : Type 0} (rows : List R) (i : ℕ) (Q : List R → Type 0) {X : Type 0} (so_far : X ↔ Q (drop i rows)) where
  module _ (r : R) (h : i < length rows) (is : r ≡ get_or rows i r) where
    here : X ↔ Q (r ∷ drop (i + 1) rows)
    here = subst (λ rs. X ↔ Q rs) (at_row rows i r h is) so_far

    -- the row at i passes, so all do where the later ones do
    pub passed : {P N : Type 0} → P → (Q (r ∷ drop (i + 1) rows) ↔ (P × N)) → X ↔ N
    passed p parts = (λ x. (parts.0 (here.0 x)).1, λ n. here.1 (parts.1 (p, n)))

    -- it does not
    pub refused : {P : Type 0} → (P → ⊥) → (Q (r ∷ drop (i + 1) rows) → P) → X → ⊥
    refused none first x = none (first (here.0 x))

  -- each passed
  pub ended : length rows ≤ i → X ↔ Q []
  ended h = subst (λ rs. X ↔ Q rs) (drop_all i rows h) so_far

-- ---- rows of values

-- how many rows there are
pub length_numbered : {A R : Type 0} (make : ℕ → A → R) (n : ℕ) (xs : List A) → length (numbered_from make n xs)
    ≡ length xs
length_numbered make n [] = refl
length_numbered make n (x ∷ xs) = ap suc (length_numbered make (n + 1) xs)

module _ {A R : Type 0} (make : ℕ → A → R) where
  -- each row has what each value's has
  pub numbered_each : (P : R → Type 0) (n : ℕ) (xs : List A) → ((m : ℕ) (a : A) → n ≤ m → P (make m a))
      → AllByRecursion P (numbered_from make n xs)
  numbered_each P n [] each = tt
  numbered_each P n (x ∷ xs) each =
      (each n x (omega arith), numbered_each P (n + 1) xs (λ m a le. each m a (omega arith)))

  -- the row that is found by its number, if one is, by the value of that number
  pub value_found : (xs : List A) (rows : List R) (n : ℕ) (found : Option R) → numbered_from make 1 xs ≡ rows
      → found ≡ item_numbered rows n → found ≡ option_map (make n) (item_numbered xs n)
  value_found xs rows n found e is = is ∙ (λ t. item_numbered (sym e t) n) ∙ numbered_row make xs n

-- rows of values one by one, and all together
module _ {A R : Type 0} (make : ℕ → A → R) (Passes : A → Type 0) where
  abbrev IsOne : ℕ → R → Type 0
  IsOne = IsRowOf make Passes

  -- the rows are those of values that are numbered by their places, the first with this number, and each passes
  record AreRowsFrom (first : ℕ) (rows : List R) : Type 0 where
    values : List A
    pass : AllByRecursion Passes values
    rows_are : numbered_from make first values ≡ rows

  gathered : (n : ℕ) (rows : List R) → AllFrom IsOne n rows → AreRowsFrom n rows
  gathered n [] all = record { values = []; pass = tt; rows_are = refl }
  gathered n (r ∷ rs) all =
      let more = gathered (n + 1) rs all.1 in
      record {
        values = all.0.value ∷ more.values;
        pass = (all.0.passes, more.pass);
        rows_are = λ k. all.0.row_is k ∷ more.rows_are k;
      }

  parted : (n : ℕ) (vs : List A) → AllByRecursion Passes vs → AllFrom IsOne n (numbered_from make n vs)
  parted n [] pass = tt
  parted n (v ∷ vs) pass = (record { value = v; passes = pass.0; row_is = refl }, parted (n + 1) vs pass.1)

  -- the same of at most so many rows, numbered from 1
  pub record AreRowsOf (most : ℕ) (rows : List R) : Type 0 where
    pub values : List A
    pub few : length values ≤ most
    pub pass : AllByRecursion Passes values
    pub rows_are : numbered_from make 1 values ≡ rows

  pub values_of : (most : ℕ) (rows : List R) → (length rows ≤ most) × AllFrom IsOne 1 rows → AreRowsOf most rows
  values_of most rows h =
      let all = gathered 1 rows h.1 in
      record {
        values = all.values;
        few = omega (arith, length_numbered make 1 all.values, ap length all.rows_are, h.0);
        pass = all.pass;
        rows_are = all.rows_are;
      }

  pub rows_of : (most : ℕ) (vs : List A) (rows : List R) → length vs ≤ most → AllByRecursion Passes vs
      → numbered_from make 1 vs ≡ rows → (length rows ≤ most) × AllFrom IsOne 1 rows
  rows_of most vs rows few pass are =
      (omega (arith, length_numbered make 1 vs, ap length are), subst (AllFrom IsOne 1) are (parted 1 vs pass))
