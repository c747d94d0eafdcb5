-- Rows one beside the next, and what holds of each of them where its contrary holds of none.
use Rattle.std.proofs.Common.{◌≡◌, ◌≢◌, ◌<◌, ◌≤◌, ◌+◌, ◌==◌, ℕ, suc}
use Rattle.std.proofs.Common.{Bool, true, false, List, [], ◌∷◌, length, Option, Some}
use Rattle.std.proofs.Common.{arith, refl}
use Rattle.std.specs.List.{AllByRecursion, Contains}
use Rattle.std.proofs.lemmas.Bool.Decides.{nat_tests}
use Rattle.mf_store_sound.specs.Stored.{AllFrom}

-- ---- what can't be false

-- two numbers that can't differ are one
pub same_number : (a b : ℕ) → ¬ (a ≢ b) → a ≡ b
same_number a b h = go (a == b) refl
  where
    go : (e : Bool) → (a == b) ≡ e → a ≡ b
    go true e = grind (arith, nat_tests)
    go false e = absurd (h (let apart : a ≢ b = grind (arith, nat_tests) in apart))

-- a number that can't be greater is at most the other
pub no_greater : (a b : ℕ) → ¬ (b < a) → a ≤ b
no_greater a b h = omega (arith, h)

-- a number that another can't be at most is greater
pub greater : (a b : ℕ) → ¬ (b ≤ a) → a < b
greater a b h = omega (arith, h)

-- and one more of each
pub less_one : (a b : ℕ) → a + 1 ≤ b + 1 → a ≤ b
less_one a b h = omega (arith, h)

pub some_limit : (limit : ℕ) → 1 ≤ limit + 1
some_limit limit = omega arith

-- what was found twice is one
pub found_once : {A : Type 0} (o : Option A) (a b : A) → o ≡ Some a → o ≡ Some b → a ≡ b
found_once o a b e f = cc

-- a test that can't fail passes
pub passes : (b : Bool) → ¬ (b ≡ false) → b ≡ true
passes true h = refl
passes false h = absurd (h refl)

-- ---- rows beside the row before each

module _ {R : Type 0} where
  -- this holds of each row and the one before it
  abbrev pub Walk : (Option R → R → Type 0) → Option R → List R → Type 0
  Walk P before [] = Unit {0}
  Walk P before (r ∷ rs) = P before r × Walk P (Some r) rs

  pub walk_weaker : (P Q : Option R → R → Type 0) → ((before : Option R) (r : R) → P before r → Q before r)
      → (before : Option R) (rows : List R) → Walk P before rows → Walk Q before rows
  walk_weaker P Q h before [] walk = tt
  walk_weaker P Q h before (r ∷ rs) walk = (h before r walk.0, walk_weaker P Q h (Some r) rs walk.1)

  -- what holds of each row by itself
  pub walk_each : (P : Option R → R → Type 0) (D : R → Type 0) → ((before : Option R) (r : R) → P before r → D r)
      → (before : Option R) (rows : List R) → Walk P before rows → AllByRecursion D rows
  walk_each P D h before [] walk = tt
  walk_each P D h before (r ∷ rs) walk = (h before r walk.0, walk_each P D h (Some r) rs walk.1)

  -- what can't fail of any row can't fail of all
  pub all_stand : (D : R → Type 0) (rows : List R) → AllByRecursion (λ r. ¬ ¬ D r) rows → ¬ ¬ AllByRecursion D rows
  all_stand D [] each fails = fails tt
  all_stand D (r ∷ rs) each fails = each.0 (λ here. all_stand D rs each.1 (λ others. fails (here, others)))

  -- each row holds what each row of the list does
  pub each_there : (D : R → Type 0) (rows : List R) → ((r : R) → Contains rows r → D r) → AllByRecursion D rows
  each_there D [] h = tt
  each_there D (r ∷ rs) h = (
    h r (0, omega arith, refl),
    each_there D rs (λ s at. h s (suc at.0, (let low : at.0 < length rs = at.1 in omega arith), at.2)),
  )

  -- ---- rows under their numbers

  pub from_weaker : (P Q : ℕ → R → Type 0) → ((n : ℕ) (r : R) → P n r → Q n r) → (n : ℕ) (rows : List R)
      → AllFrom P n rows → AllFrom Q n rows
  from_weaker P Q h n [] all = tt
  from_weaker P Q h n (r ∷ rs) all = (h n r all.0, from_weaker P Q h (n + 1) rs all.1)

  pub from_both : (P Q : ℕ → R → Type 0) (D : R → Type 0) → ((n : ℕ) (r : R) → P n r → D r → Q n r) → (n : ℕ)
      (rows : List R) → AllFrom P n rows → AllByRecursion D rows → AllFrom Q n rows
  from_both P Q D h n [] all each = tt
  from_both P Q D h n (r ∷ rs) all each = (h n r all.0 each.0, from_both P Q D h (n + 1) rs all.1 each.1)

  -- rows whose numbers are within a limit are no more than that
  pub few : (limit n : ℕ) (rows : List R) → AllFrom (λ m r. m ≤ limit) n rows → n ≤ limit + 1
      → length rows + n ≤ limit + 1
  few limit n [] all low = omega (arith, low)
  few limit n (r ∷ rs) all low =
      let here : n ≤ limit = all.0 in
      let more : length rs + (n + 1) ≤ limit + 1 = few limit (n + 1) rs all.1 (omega (arith, here)) in
      omega (arith, more)
