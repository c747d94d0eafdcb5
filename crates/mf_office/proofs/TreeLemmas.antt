-- Who is at or below whom in a tree, step by step.
use Rattle.std.proofs.Common.{◌≡◌, ◌≢◌, ◌↔◌, ℕ, zero, suc, Bool, true, false, Option, Some, None, refl, sym, ap, ◌∙◌}
use Rattle.std.proofs.Common.{subst, arith}
use Rattle.std.specs.Prelude.{◌==◌, ◌||◌}
use Rattle.std.proofs.lemmas.Bool.Decides.{nat_tests}
use Rattle.mf_office.specs.Tree.{is_within, is_at_or_below, option_any, IsTreeOf, IsAtOrBelow, itself, by_parent}

-- one step up, by the parent
pub within_none : (n : ℕ) (parents : ℕ → Option ℕ) (x y : ℕ) → parents x ≡ None → is_within n parents x y ≡ (x == y)
unfolding is_within
within_none zero parents x y e = refl
within_none (suc n) parents x y e = ap (λ q. (x == y) || option_any q (λ p. is_within n parents p y)) e
    ∙ either (x == y)
  where
    either : (b : Bool) → (b || false) ≡ b
    either true = refl
    either false = refl

pub within_some : (n : ℕ) (parents : ℕ → Option ℕ) (x y p : ℕ) → parents x ≡ Some p → is_within (suc n) parents x y
    ≡ ((x == y) || is_within n parents p y)
unfolding is_within
within_some n parents x y p e = ap (λ q. (x == y) || option_any q (λ p. is_within n parents p y)) e

pub within_zero : (parents : ℕ → Option ℕ) (x y : ℕ) → is_within 0 parents x y ≡ (x == y)
unfolding is_within
within_zero parents x y = refl

-- only the head has no parent, and the head has none
not_head : (there : ℕ → Bool) (parents : ℕ → Option ℕ) (x p : ℕ) → IsTreeOf there parents → parents x ≡ Some p → x ≢ 1
not_head there parents x p t e is =
    let h : parents 1 ≡ None = t.head in
    let k : parents 1 ≡ Some p = subst (λ (z : ℕ). parents z ≡ Some p) is e in
    cc

pub step_up : (n : ℕ) (there : ℕ → Bool) (parents : ℕ → Option ℕ) (x p : ℕ) → IsTreeOf there parents
    → parents x ≡ Some p → is_within (suc n) parents x 1 ≡ true → is_within n parents p 1 ≡ true
step_up n there parents x p t e h =
    let ne : x ≢ 1 = not_head there parents x p t e in
    let w : ((x == 1) || is_within n parents p 1) ≡ true = sym (within_some n parents x 1 p e) ∙ h in
    grind (arith, nat_tests)

pub is_head : (n : ℕ) (parents : ℕ → Option ℕ) (x : ℕ) → parents x ≡ None → is_within n parents x 1 ≡ true → x ≡ 1
is_head n parents x e h = let w : (x == 1) ≡ true = sym (within_none n parents x 1 e) ∙ h in grind (arith, nat_tests)

pub zero_head : (there : ℕ → Bool) (parents : ℕ → Option ℕ) (x p : ℕ) → IsTreeOf there parents → parents x ≡ Some p
    → is_within 0 parents x 1 ≡ true → ⊥
zero_head there parents x p t e h =
    let w : (x == 1) ≡ true = sym (within_zero parents x 1) ∙ h in
    not_head there parents x p t e (grind (arith, nat_tests))

pub reaches : (there : ℕ → Bool) (parents : ℕ → Option ℕ) (x : ℕ) → IsTreeOf there parents → there x ≡ true
    → is_within 5 parents x 1 ≡ true
unfolding is_at_or_below
reaches there parents x t here = t.all_below x here

-- a step more reaches no more
pub within_stable : (n : ℕ) (there : ℕ → Bool) (parents : ℕ → Option ℕ) (x y : ℕ) (o : Option ℕ)
    → IsTreeOf there parents → is_within n parents x 1 ≡ true → parents x ≡ o → is_within (suc n) parents x y
    ≡ is_within n parents x y
within_stable n there parents x y None t r e = within_none (suc n) parents x y e ∙ sym (within_none n parents x y e)
within_stable zero there parents x y (Some p) t r e = absurd (zero_head there parents x p t e r)
within_stable (suc n) there parents x y (Some p) t r e =
    within_some (suc n) parents x y p e
    ∙ ap (λ b. (x == y) || b) (within_stable n there parents p y (parents p) t (step_up n there parents x p t e r) refl)
    ∙ sym (within_some n parents x y p e)

pub below_by_parent : (there : ℕ → Bool) (parents : ℕ → Option ℕ) → IsTreeOf there parents → (x y : ℕ) → there x ≡ true
    → is_at_or_below parents x y ≡ ((x == y) || option_any (parents x) (λ p. is_at_or_below parents p y))
unfolding is_within is_at_or_below
below_by_parent there parents t x y here =
    sym (within_stable 5 there parents x y (parents x) t (reaches there parents x t here) refl)

-- the bounded definition and the unbounded one
pub same_number : (x y : ℕ) → (x == y) ≡ true → x ≡ y
same_number x y h = grind (arith, nat_tests)

at_itself : (parents : ℕ → Option ℕ) (x y : ℕ) → x ≡ y → IsAtOrBelow parents y x
at_itself parents x y e = subst (λ (z : ℕ). IsAtOrBelow parents y z) (sym e) itself

within_below : (n : ℕ) (parents : ℕ → Option ℕ) (x y : ℕ) (b : Bool) (o : Option ℕ) → (x == y) ≡ b → parents x ≡ o
    → is_within n parents x y ≡ true → IsAtOrBelow parents y x
within_below n parents x y true o s e h = at_itself parents x y (same_number x y s)
within_below n parents x y false None s e h =
    absurd (let w : (x == y) ≡ true = sym (within_none n parents x y e) ∙ h in cc)
within_below zero parents x y false (Some p) s e h =
    absurd (let w : (x == y) ≡ true = sym (within_zero parents x y) ∙ h in cc)
within_below (suc n) parents x y false (Some p) s e h =
    by_parent x p e (within_below n parents p y (p == y) (parents p) refl refl (ap (λ b. b || is_within n parents p y)
    (sym s) ∙ sym (within_some n parents x y p e) ∙ h))

below_within : (there : ℕ → Bool) (parents : ℕ → Option ℕ) (y : ℕ) → IsTreeOf there parents → (x : ℕ)
    → IsAtOrBelow parents y x → there x ≡ true → is_at_or_below parents x y ≡ true
below_within there parents y t _ itself here = below_by_parent there parents t y y here
    ∙ left (y == y) (option_any (parents y) (λ p. is_at_or_below parents p y)) (grind (arith, nat_tests))
  where
    left : (a b : Bool) → a ≡ true → (a || b) ≡ true
    left a b h = ap (λ c. c || b) h
below_within there parents y t _ (by_parent x p e up) here =
    below_by_parent there parents t x y here
    ∙ ap (λ q. (x == y) || option_any q (λ p. is_at_or_below parents p y)) e
    ∙ ap (λ b. (x == y) || b) (below_within there parents y t p up (t.parents_there x p here e))
    ∙ right (x == y)
  where
    right : (a : Bool) → (a || true) ≡ true
    right true = refl
    right false = refl

pub below_unbounded : (there : ℕ → Bool) (parents : ℕ → Option ℕ) → IsTreeOf there parents → (x y : ℕ) → there x ≡ true
    → (is_at_or_below parents x y ≡ true) ↔ IsAtOrBelow parents y x
unfolding is_at_or_below
below_unbounded there parents t x y here =
    (λ h. within_below 5 parents x y (x == y) (parents x) refl refl h, λ b. below_within there parents y t x b here)
