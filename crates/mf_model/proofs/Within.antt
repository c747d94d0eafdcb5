-- Who is at or below whom: in a part of the tree, and after a change.
use Rattle.std.proofs.Common.{◌≡◌, ◌≢◌, ℕ, zero, suc, Bool, true, false, cond, List, Option, Some, None, refl, ap, ◌∙◌}
use Rattle.std.proofs.Common.{arith}
use Rattle.std.specs.Prelude.{◌==◌, ◌||◌}
use Rattle.std.proofs.lemmas.Bool.Decides.{nat_tests}
use Rattle.mf_office.specs.Tree.{option_any, is_within, is_at_or_below}
use Rattle.mf_model.specs.Institution.{Office, Rows, with_rows, with_office}
use Rattle.mf_model.specs.Tree.{parent_of, offices_where, is_there, seen_by}
use Rattle.mf_model.proofs.Offices.{parent_of_kept, parent_of_with_rows, parent_of_with_office}

eq_self : (x : ℕ) → (x == x) ≡ true
eq_self x = grind (arith, nat_tests)

pub within_self : (n : ℕ) (up : ℕ → Option ℕ) (x : ℕ) → is_within n up x x ≡ true
unfolding is_within
within_self zero up x = eq_self x
within_self (suc n) up x = ap (λ b. b || option_any (up x) (λ p. is_within n up p x)) (eq_self x)

-- one step more reaches no less
more : (b : Bool) (q : Option ℕ) (f g : ℕ → Bool) → ((p : ℕ) → f p ≡ true → g p ≡ true) → (b || option_any q f) ≡ true
    → (b || option_any q g) ≡ true
more true q f g k h = refl
more false None f g k h = h
more false (Some p) f g k h = k p h

left_true : (b c : Bool) → b ≡ true → (b || c) ≡ true
left_true b c h = ap (λ a. a || c) h

pub within_more : (n : ℕ) (up : ℕ → Option ℕ) (x y : ℕ) → is_within n up x y ≡ true → is_within (suc n) up x y ≡ true
unfolding is_within
within_more zero up x y h = left_true (x == y) (option_any (up x) (λ p. p == y)) h
within_more (suc n) up x y h = more (x == y) (up x) (λ p. is_within n up p y) (λ p. is_within (suc n) up p y)
    (λ p. within_more n up p y) h

-- in a part of the tree that has each office from which y is reached
only_true : (b : Bool) → (b ≡ true → false ≡ true) → false ≡ b
only_true true h = h refl
only_true false h = refl

part : (b px : Bool) (q : Option ℕ) (f g : ℕ → Bool) → ((z : ℕ) → f z ≡ g z) → ((b || option_any q g) ≡ true
    → px ≡ true) → (b || option_any (cond px q None) f) ≡ (b || option_any q g)
part true px q f g k h = refl
part false true None f g k h = refl
part false true (Some z) f g k h = k z
part false false None f g k h = refl
part false false (Some z) f g k h = only_true (g z) h

pub within_kept : (n : ℕ) (p : ℕ → Bool) (fs : List Office) (x y : ℕ) → ((z : ℕ) → is_within n (parent_of fs) z y ≡ true
    → p z ≡ true) → is_within n (parent_of (offices_where p fs)) x y ≡ is_within n (parent_of fs) x y
unfolding is_within
within_kept zero p fs x y h = refl
within_kept (suc n) p fs x y h =
    ap (λ q. (x == y) || option_any q (λ z. is_within n (parent_of (offices_where p fs)) z y)) (parent_of_kept p fs x)
    ∙ part (x == y) (p x) (parent_of fs x) (λ z. is_within n (parent_of (offices_where p fs)) z y)
    (λ z. is_within n (parent_of fs) z y)
    (λ z. within_kept n p fs z y (λ w t. h w (within_more n (parent_of fs) w y t))) (h x)

-- with the same parents
above_agree : (b : Bool) (q : Option ℕ) (f g : ℕ → Bool) → ((z : ℕ) → q ≡ Some z → f z ≡ g z) → (b || option_any q f)
    ≡ (b || option_any q g)
above_agree b None f g k = refl
above_agree b (Some z) f g k = ap (λ c. b || c) (k z refl)

pub within_with_rows : (n x : ℕ) (r : Rows) (fs : List Office) (y z : ℕ) → is_within n (parent_of (with_rows x r fs)) y
    z ≡ is_within n (parent_of fs) y z
unfolding is_within
within_with_rows zero x r fs y z = refl
within_with_rows (suc n) x r fs y z =
    ap (λ q. (y == z) || option_any q (λ w. is_within n (parent_of (with_rows x r fs)) w z))
    (parent_of_with_rows x r fs y)
    ∙ above_agree (y == z) (parent_of fs y) (λ w. is_within n (parent_of (with_rows x r fs)) w z)
    (λ w. is_within n (parent_of fs) w z) (λ w e. within_with_rows n x r fs w z)

parent_of_old : (new : Office) (fs : List Office) (x : ℕ) → is_there fs new.number ≡ false → x ≢ new.number
    → parent_of (with_office new fs) x ≡ parent_of fs x
parent_of_old new fs x h ne = grind (arith, nat_tests, parent_of_with_office new fs x)

-- with a new office that nobody has above it
pub within_with_office : (n : ℕ) (new : Office) (fs : List Office) (x y : ℕ) → is_there fs new.number ≡ false
    → ((z p : ℕ) → parent_of fs z ≡ Some p → p ≢ new.number) → x ≢ new.number
    → is_within n (parent_of (with_office new fs)) x y ≡ is_within n (parent_of fs) x y
unfolding is_within
within_with_office zero new fs x y h closed ne = refl
within_with_office (suc n) new fs x y h closed ne =
    ap (λ q. (x == y) || option_any q (λ w. is_within n (parent_of (with_office new fs)) w y))
    (parent_of_old new fs x h ne)
    ∙ above_agree (x == y) (parent_of fs x) (λ w. is_within n (parent_of (with_office new fs)) w y)
    (λ w. is_within n (parent_of fs) w y) (λ w e. within_with_office n new fs w y h closed (closed x w e))

-- the new office itself
pub new_within : (n : ℕ) (new : Office) (p : ℕ) (fs : List Office) (y : ℕ) → is_there fs new.number ≡ false
    → ((z q : ℕ) → parent_of fs z ≡ Some q → q ≢ new.number) → new.parent ≡ Some p → p ≢ new.number
    → is_within n (parent_of fs) p y ≡ true → is_within (suc n) (parent_of (with_office new fs)) new.number y ≡ true
unfolding is_within
new_within n new p fs y h closed e ne w =
    let up : parent_of (with_office new fs) new.number ≡ Some p =
    grind (arith, nat_tests, parent_of_with_office new fs new.number) in
    let r : is_within n (parent_of (with_office new fs)) p y ≡ true = within_with_office n new fs p y h closed ne ∙ w in
    rw (up, r) (or_true (new.number == y))
  where
    or_true : (b : Bool) → (b || true) ≡ true
    or_true true = refl
    or_true false = refl

-- at or below
pub below_self : (fs : List Office) (x : ℕ) → is_at_or_below (parent_of fs) x x ≡ true
unfolding is_at_or_below
below_self fs x = within_self 5 (parent_of fs) x

pub below_seen : (o : ℕ) (fs : List Office) (x : ℕ) → is_at_or_below (parent_of (seen_by o fs)) x o
    ≡ is_at_or_below (parent_of fs) x o
unfolding is_at_or_below
below_seen o fs x = within_kept 5 (λ z. is_within 5 (parent_of fs) z o) fs x o (λ z t. t)

pub below_with_rows : (x : ℕ) (r : Rows) (fs : List Office) (y z : ℕ) → is_at_or_below (parent_of (with_rows x r fs)) y
    z ≡ is_at_or_below (parent_of fs) y z
unfolding is_at_or_below
below_with_rows x r fs y z = within_with_rows 5 x r fs y z

pub below_with_office : (new : Office) (fs : List Office) (x y : ℕ) → is_there fs new.number ≡ false
    → ((z p : ℕ) → parent_of fs z ≡ Some p → p ≢ new.number) → x ≢ new.number
    → is_at_or_below (parent_of (with_office new fs)) x y ≡ is_at_or_below (parent_of fs) x y
unfolding is_at_or_below
below_with_office new fs x y h closed ne = within_with_office 5 new fs x y h closed ne

pub new_below : (new : Office) (p : ℕ) (fs : List Office) (y : ℕ) → is_there fs new.number ≡ false
    → ((z q : ℕ) → parent_of fs z ≡ Some q → q ≢ new.number) → new.parent ≡ Some p → p ≢ new.number
    → is_within 4 (parent_of fs) p y ≡ true → is_at_or_below (parent_of (with_office new fs)) new.number y ≡ true
unfolding is_at_or_below
new_below new p fs y h closed e ne w = new_within 4 new p fs y h closed e ne w
