-- Rows that are numbered by their places.
use Rattle.std.proofs.Common.{◌≡◌, ◌+◌, ◌-◌, ℕ, zero, suc, Bool, true, false, cond, List, [], ◌∷◌, slice_get, Some}
use Rattle.std.proofs.Common.{None, Option, refl, sym, ap, ◌∙◌, arith, ◌==◌}
use Rattle.std.specs.Option.{option_map}
use Rattle.std.proofs.lemmas.Bool.Decides.{nat_tests}
use Rattle.mf_model.specs.Institution.{item_numbered}
use Rattle.mf_store_values.specs.Flat.{numbered_from}

-- the row of a number, by the value of that number
module _ {A R : Type 0} (make : ℕ → A → R) where
  at_place : (xs : List A) (m d n : ℕ) → n ≡ m + d → slice_get (numbered_from make m xs) d ≡ option_map (make n)
      (slice_get xs d)
  at_place [] m d n e = refl
  at_place (x ∷ xs) m zero n e = ap (λ j. Some (make j x)) (let same : m ≡ n = omega arith in same)
  at_place (x ∷ xs) m (suc d) n e = at_place xs (m + 1) d n (omega arith)

  pub numbered_row : (xs : List A) (n : ℕ) → item_numbered (numbered_from make 1 xs) n ≡ option_map (make n)
      (item_numbered xs n)
  numbered_row xs n = go (n == 0) refl
    where
      go : (b : Bool) → (n == 0) ≡ b → cond b None (slice_get (numbered_from make 1 xs) (n - 1)) ≡ option_map (make n)
          (cond b None (slice_get xs (n - 1)))
      go true e = refl
      go false e = let some : n ≡ 1 + (n - 1) = grind (arith, nat_tests) in at_place xs 1 (n - 1) n some

  -- what is made of the value whose row is found under a number, and where no row is
  pub by_row : {C : Type 0} (G : Option A → C) (xs : List A) (n : ℕ) (rows : List R) (row : R) (found : C)
      → numbered_from make 1 xs ≡ rows → Some row ≡ item_numbered rows n
      → ((a : A) → make n a ≡ row → found ≡ G (Some a)) → found ≡ G (item_numbered xs n)
  by_row G xs n rows row found e is each =
      go (item_numbered xs n) (is ∙ ap (λ rs. item_numbered rs n) (sym e) ∙ numbered_row xs n)
    where
      go : (o : Option A) → Some row ≡ option_map (make n) o → found ≡ G o
      go None f = absurd (cc)
      go (Some a) f = each a (cc)

  pub by_no_row : {C : Type 0} (G : Option A → C) (xs : List A) (n : ℕ) (rows : List R) → numbered_from make 1 xs ≡ rows
      → None ≡ item_numbered rows n → G None ≡ G (item_numbered xs n)
  by_no_row G xs n rows e is =
      go (item_numbered xs n) (is ∙ ap (λ rs. item_numbered rs n) (sym e) ∙ numbered_row xs n)
    where
      go : (o : Option A) → None ≡ option_map (make n) o → G None ≡ G o
      go None f = refl
      go (Some a) f = absurd (cc)
