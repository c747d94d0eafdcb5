-- Sums of signed numbers, over lists of which one thing changes.
use Rattle.std.proofs.Common.{◌≡◌, ◌-◌, ℕ, zero, suc, Bool, true, false, cond, List, [], ◌∷◌, ◌++◌, Some, refl, sym, ap}
use Rattle.std.proofs.Common.{◌∙◌, subst, arith}
use Rattle.std.specs.Prelude.{◌==◌, nat_lt, slice_get, filter, ℤ, pos, ◌+ℤ◌, ◌-ℤ◌}
use Rattle.std.specs.List.{AllByRecursion}
use Rattle.std.proofs.lemmas.Bool.Decides.{nat_tests}
use Rattle.std.proofs.lemmas.Int.{ints}
use Rattle.mf_model.specs.Institution.{Office, Rows, office_at, item_numbered, with_numbered, with_rows, with_office}
use Rattle.mf_model.specs.Tree.{Above, Ascending}
use Rattle.mf_model.proofs.Growing.{numbered_suc}
use Rattle.mf_ledger.specs.Books.{signed_sum}
use Rattle.mf_ledger.specs.Runs.{where_meant}

pub sum-append : {X : Type 0} (read : X → ℤ) (xs ys : List X)
    → signed_sum read (xs ++ ys) ≡ signed_sum read xs +ℤ signed_sum read ys
sum-append read [] ys = omega (arith, ints)
sum-append read (x ∷ xs) ys = let rest = sum-append read xs ys in omega (arith, ints, rest)

pub sum-difference : {X : Type 0} (f g : X → ℤ) (xs : List X)
    → signed_sum (λ x. g x -ℤ f x) xs ≡ signed_sum g xs -ℤ signed_sum f xs
sum-difference f g [] = omega (arith, ints)
sum-difference f g (x ∷ xs) = let rest = sum-difference f g xs in omega (arith, ints, rest)

pub sum-plus : {X : Type 0} (f g h : X → ℤ) → ((x : X) → f x ≡ g x +ℤ h x) → (xs : List X)
    → signed_sum f xs ≡ signed_sum g xs +ℤ signed_sum h xs
sum-plus f g h each [] = omega (arith, ints)
sum-plus f g h each (x ∷ xs) =
    let here = each x in
    let rest = sum-plus f g h each xs in
    omega (arith, ints, here, rest)

pub sum-same : {X : Type 0} (P : X → Type 0) (f g : X → ℤ) → ((x : X) → P x → f x ≡ g x) → (xs : List X)
    → AllByRecursion P xs → signed_sum f xs ≡ signed_sum g xs
sum-same P f g each [] all = refl
sum-same P f g each (x ∷ xs) all =
    let here = each x all.0 in
    let rest = sum-same P f g each xs all.1 in
    omega (arith, ints, here, rest)

pub sum-filter : {X : Type 0} (test : X → Bool) (read : X → ℤ) (xs : List X)
    → signed_sum read (filter test xs) ≡ signed_sum (λ x. where_meant (test x) (read x)) xs
sum-filter test read [] = refl
sum-filter {X = X} test read (x ∷ xs) = go (test x) (sum-filter test read xs)
  where
    go : (b : Bool) → signed_sum read (filter test xs) ≡ signed_sum (λ y. where_meant (test y) (read y)) xs
        → signed_sum read (cond b (x ∷ filter test xs) (filter test xs))
        ≡ where_meant b (read x) +ℤ signed_sum (λ y. where_meant (test y) (read y)) xs
    go true rest = omega (arith, ints, rest)
    go false rest = omega (arith, ints, rest)

-- ---- one thing of a list is changed

module _ {X : Type 0} (change : X → X) (read : X → ℤ) where
  slice_changed : (n : ℕ) (xs : List X) (k : ℕ) (x : X) → slice_get xs k ≡ Some x → suc k ≡ n
      → signed_sum read (with_numbered n change xs) +ℤ read x ≡ signed_sum read xs +ℤ read (change x)
  slice_changed n [] k x h is = absurd (cc)
  slice_changed n (y ∷ ys) k x h is = go (n == 1) refl k h is (λ j. slice_changed (n - 1) ys j x)
    where
      go : (b : Bool) → (n == 1) ≡ b → (k : ℕ) → slice_get (y ∷ ys) k ≡ Some x → suc k ≡ n
          → ((j : ℕ) → slice_get ys j ≡ Some x → suc j ≡ n - 1
          → signed_sum read (with_numbered (n - 1) change ys) +ℤ read x ≡ signed_sum read ys +ℤ read (change x))
          → signed_sum read (cond b (change y ∷ ys) (y ∷ with_numbered (n - 1) change ys)) +ℤ read x
          ≡ signed_sum read (y ∷ ys) +ℤ read (change x)
      go true e zero h is rest =
          let same : y ≡ x = cc in
          let now = ap (λ z. read (change z)) same in
          let before = ap read same in
          omega (arith, ints, now, before)
      go true e (suc k) h is rest = let one : n ≡ 1 = grind (arith, nat_tests) in absurd (omega (arith, one, is))
      go false e zero h is rest = absurd (grind (arith, nat_tests))
      go false e (suc k) h is rest = let later = rest k h (omega (arith, is)) in omega (arith, ints, later)

  pub numbered_changed : (n : ℕ) (xs : List X) (x : X) → item_numbered xs n ≡ Some x
      → signed_sum read (with_numbered n change xs) +ℤ read x ≡ signed_sum read xs +ℤ read (change x)
  numbered_changed zero xs x h = absurd (cc)
  numbered_changed (suc k) xs x h = slice_changed (suc k) xs k x (sym (numbered_suc xs k) ∙ h) refl

-- ---- one office has other rows, and one office more has none

rows_unseen : (x : ℕ) (new : Rows) (fs : List Office) → Above x fs → with_rows x new fs ≡ fs
rows_unseen x new [] above = refl
rows_unseen x new (f ∷ fs) above =
    let apart : (f.number == x) ≡ false = grind (arith, nat_tests, above.0) in
    ap (λ b. record f { rows = cond b new f.rows } ∷ with_rows x new fs) apart
    ∙ ap (λ gs. f ∷ gs) (rows_unseen x new fs above.1)

pub rows_changed : (read : Office → ℤ) (x : ℕ) (new : Rows) (fs : List Office) (f : Office) → Ascending fs
    → office_at x fs ≡ Some f
    → signed_sum read (with_rows x new fs) +ℤ read f ≡ signed_sum read fs +ℤ read (record f { rows = new })
rows_changed read x new [] f up h = absurd (cc)
rows_changed read x new (e ∷ fs) f up h = go (e.number == x) refl h (λ k. rows_changed read x new fs f up.1 k)
  where
    go : (b : Bool) → (e.number == x) ≡ b → cond b (Some e) (office_at x fs) ≡ Some f
        → (office_at x fs ≡ Some f
        → signed_sum read (with_rows x new fs) +ℤ read f ≡ signed_sum read fs +ℤ read (record f { rows = new }))
        → signed_sum read (record e { rows = cond b new e.rows } ∷ with_rows x new fs) +ℤ read f
        ≡ signed_sum read (e ∷ fs) +ℤ read (record f { rows = new })
    go true is h rest =
        let same : e ≡ f = cc in
        let number : e.number ≡ x = grind (arith, nat_tests) in
        let unseen = ap (signed_sum read) (rows_unseen x new fs (subst (λ (n : ℕ). Above n fs) number up.0)) in
        let now = ap (λ (g : Office). read (record g { rows = new })) same in
        let before = ap read same in
        omega (arith, ints, unseen, now, before)
    go false is h rest = let later = rest h in omega (arith, ints, later)

pub office_put_in : (read : Office → ℤ) (new : Office) (fs : List Office) → read new ≡ pos 0
    → signed_sum read (with_office new fs) ≡ signed_sum read fs
office_put_in read new [] none = omega (arith, ints, none)
office_put_in read new (f ∷ fs) none = go (nat_lt new.number f.number) (office_put_in read new fs none)
  where
    go : (b : Bool) → signed_sum read (with_office new fs) ≡ signed_sum read fs
        → signed_sum read (cond b (new ∷ f ∷ fs) (f ∷ with_office new fs)) ≡ signed_sum read (f ∷ fs)
    go true rest = omega (arith, ints, none)
    go false rest = omega (arith, ints, rest)
