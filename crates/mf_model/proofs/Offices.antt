-- Lists of offices: what a filter, new rows and a new office do to what is found in them.
use Rattle.std.proofs.Common.{◌≡◌, ℕ, ◌<◌, Bool, true, false, cond, List, [], ◌∷◌, None, refl, sym, ap, arith}
use Rattle.std.specs.Prelude.{◌==◌, nat_lt}
use Rattle.std.proofs.lemmas.Bool.Decides.{nat_tests}
use Rattle.mf_model.specs.Institution.{Office, Rows, office_at, with_rows, with_office}
use Rattle.mf_model.specs.Tree.{parent_of, offices_where, is_there, Above, Ascending}

same_either : {A : Type 0} (b : Bool) (x : A) → x ≡ cond b x x
same_either true x = refl
same_either false x = refl

-- a filter by number
pub parent_of_kept : (p : ℕ → Bool) (fs : List Office) (x : ℕ) → parent_of (offices_where p fs) x ≡ cond (p x)
    (parent_of fs x) None
parent_of_kept p [] x = same_either (p x) None
parent_of_kept p (f ∷ fs) x = grind (arith, nat_tests, parent_of_kept p fs x)

pub office_at_kept : (p : ℕ → Bool) (fs : List Office) (x : ℕ) → office_at x (offices_where p fs) ≡ cond (p x)
    (office_at x fs) None
office_at_kept p [] x = same_either (p x) None
office_at_kept p (f ∷ fs) x = grind (arith, nat_tests, office_at_kept p fs x)

-- filters that agree on what is there
pub kept_agree : (p q : ℕ → Bool) (fs : List Office) → ((x : ℕ) → is_there fs x ≡ true → p x ≡ q x) → offices_where p fs
    ≡ offices_where q fs
kept_agree p q [] h = refl
kept_agree p q (f ∷ fs) h =
    let e : p f.number ≡ q f.number = h f.number (grind (arith, nat_tests)) in
    let ih : offices_where p fs ≡ offices_where q fs = kept_agree p q fs (λ x t. h x (grind (arith, nat_tests))) in
    rw (e, ih) refl

pub kept_all : (p : ℕ → Bool) (fs : List Office) → ((x : ℕ) → is_there fs x ≡ true → p x ≡ true) → offices_where p fs
    ≡ fs
kept_all p [] h = refl
kept_all p (f ∷ fs) h =
    let e : p f.number ≡ true = h f.number (grind (arith, nat_tests)) in
    let ih : offices_where p fs ≡ fs = kept_all p fs (λ x t. h x (grind (arith, nat_tests))) in
    rw (e, ih) refl

pub kept_twice : (p q : ℕ → Bool) (fs : List Office) → ((x : ℕ) → q x ≡ p x) → offices_where q (offices_where p fs)
    ≡ offices_where p fs
kept_twice p q [] h = refl
kept_twice p q (f ∷ fs) h = grind (arith, nat_tests, kept_twice p q fs h, h f.number)

-- new rows
pub parent_of_with_rows : (x : ℕ) (r : Rows) (fs : List Office) (y : ℕ) → parent_of (with_rows x r fs) y
    ≡ parent_of fs y
parent_of_with_rows x r [] y = refl
parent_of_with_rows x r (f ∷ fs) y = ap (cond (f.number == y) f.parent) (parent_of_with_rows x r fs y)

pub is_there_with_rows : (x : ℕ) (r : Rows) (fs : List Office) (y : ℕ) → is_there (with_rows x r fs) y ≡ is_there fs y
is_there_with_rows x r [] y = refl
is_there_with_rows x r (f ∷ fs) y = grind (arith, nat_tests, is_there_with_rows x r fs y)

pub Above_with_rows : (n x : ℕ) (r : Rows) (fs : List Office) → Above n fs → Above n (with_rows x r fs)
Above_with_rows n x r [] a = tt
Above_with_rows n x r (f ∷ fs) a = (a.0, Above_with_rows n x r fs a.1)

pub Ascending_with_rows : (x : ℕ) (r : Rows) (fs : List Office) → Ascending fs → Ascending (with_rows x r fs)
Ascending_with_rows x r [] a = tt
Ascending_with_rows x r (f ∷ fs) a = (Above_with_rows f.number x r fs a.0, Ascending_with_rows x r fs a.1)

pub kept_with_rows : (p : ℕ → Bool) (x : ℕ) (r : Rows) (fs : List Office) → offices_where p (with_rows x r fs)
    ≡ with_rows x r (offices_where p fs)
kept_with_rows p x r [] = refl
kept_with_rows p x r (f ∷ fs) = grind (arith, nat_tests, kept_with_rows p x r fs)

pub with_rows_unseen : (p : ℕ → Bool) (x : ℕ) (r : Rows) (fs : List Office) → p x ≡ false
    → with_rows x r (offices_where p fs) ≡ offices_where p fs
with_rows_unseen p x r [] h = refl
with_rows_unseen p x r (f ∷ fs) h = grind (arith, nat_tests, with_rows_unseen p x r fs h)

-- a new office
pub parent_of_with_office : (new : Office) (fs : List Office) (x : ℕ) → is_there fs new.number ≡ false
    → parent_of (with_office new fs) x ≡ cond (new.number == x) new.parent (parent_of fs x)
parent_of_with_office new [] x h = refl
parent_of_with_office new (f ∷ fs) x h = grind (arith, nat_tests, parent_of_with_office new fs x)

pub is_there_with_office : (new : Office) (fs : List Office) (x : ℕ) → is_there fs new.number ≡ false
    → is_there (with_office new fs) x ≡ cond (new.number == x) true (is_there fs x)
is_there_with_office new [] x h = grind (arith, nat_tests)
is_there_with_office new (f ∷ fs) x h = grind (arith, nat_tests, is_there_with_office new fs x)

pub Above_lower : (m n : ℕ) (fs : List Office) → m < n → Above n fs → Above m fs
Above_lower m n [] lt a = tt
Above_lower m n (f ∷ fs) lt a = (omega arith, Above_lower m n fs lt a.1)

pub Above_kept : (p : ℕ → Bool) (n : ℕ) (fs : List Office) → Above n fs → Above n (offices_where p fs)
Above_kept p n [] a = tt
Above_kept p n (f ∷ fs) a = elim (p f.number) as (λ b. Above n (cond b (f ∷ offices_where p fs) (offices_where p fs)))
    [ true ↦ (a.0, Above_kept p n fs a.1) | false ↦ Above_kept p n fs a.1 ]

pub with_office_first : (new : Office) (fs : List Office) → Above new.number fs → with_office new fs ≡ new ∷ fs
with_office_first new [] a = refl
with_office_first new (f ∷ fs) a = grind (arith, nat_tests)

kept_before : (p : ℕ → Bool) (new f : Office) (fs : List Office) → nat_lt new.number f.number ≡ true
    → Ascending (f ∷ fs) → with_office new (offices_where p (f ∷ fs)) ≡ new ∷ offices_where p (f ∷ fs)
kept_before p new f fs h a =
    let lt : new.number < f.number = grind (arith, nat_tests) in
    with_office_first new (offices_where p (f ∷ fs)) (Above_kept p new.number (f ∷ fs)
    (lt, Above_lower new.number f.number fs lt a.0))

kept_step : (p : ℕ → Bool) (new f : Office) (fs : List Office) (b : Bool) → nat_lt new.number f.number ≡ b
    → Ascending (f ∷ fs) → offices_where p (with_office new fs) ≡ cond (p new.number)
    (with_office new (offices_where p fs)) (offices_where p fs)
    → offices_where p (cond b (new ∷ f ∷ fs) (f ∷ with_office new fs)) ≡ cond (p new.number)
    (with_office new (offices_where p (f ∷ fs))) (offices_where p (f ∷ fs))
kept_step p new f fs true h a ih =
    ap (λ k. cond (p new.number) k (offices_where p (f ∷ fs))) (sym (kept_before p new f fs h a))
kept_step p new f fs false h a ih = grind (arith, nat_tests)

pub kept_with_office : (p : ℕ → Bool) (new : Office) (fs : List Office) → Ascending fs → offices_where p
    (with_office new fs) ≡ cond (p new.number) (with_office new (offices_where p fs)) (offices_where p fs)
kept_with_office p new [] a = refl
kept_with_office p new (f ∷ fs) a =
    kept_step p new f fs (nat_lt new.number f.number) refl a (kept_with_office p new fs a.1)

pub Above_with_office : (n : ℕ) (new : Office) (fs : List Office) → n < new.number → Above n fs
    → Above n (with_office new fs)
Above_with_office n new [] lt a = (lt, tt)
Above_with_office n new (f ∷ fs) lt a = elim (nat_lt new.number f.number) as (λ b. Above n (cond b (new ∷ f ∷ fs)
    (f ∷ with_office new fs))) [ true ↦ (lt, a) | false ↦ (a.0, Above_with_office n new fs lt a.1) ]

ascending_step : (new f : Office) (fs : List Office) (b : Bool) → nat_lt new.number f.number ≡ b
    → is_there (f ∷ fs) new.number ≡ false → Ascending (f ∷ fs) → Ascending (with_office new fs)
    → Ascending (cond b (new ∷ f ∷ fs) (f ∷ with_office new fs))
ascending_step new f fs true e h a ih =
    let lt : new.number < f.number = grind (arith, nat_tests) in
    ((lt, Above_lower new.number f.number fs lt a.0), a)
ascending_step new f fs false e h a ih =
    let lt : f.number < new.number = grind (arith, nat_tests) in
    (Above_with_office f.number new fs lt a.0, ih)

not_further : (f : Office) (fs : List Office) (x : ℕ) → is_there (f ∷ fs) x ≡ false → is_there fs x ≡ false
not_further f fs x h = grind (arith, nat_tests)

pub Ascending_with_office : (new : Office) (fs : List Office) → is_there fs new.number ≡ false → Ascending fs
    → Ascending (with_office new fs)
Ascending_with_office new [] h a = (tt, tt)
Ascending_with_office new (f ∷ fs) h a = ascending_step new f fs (nat_lt new.number f.number) refl h a
    (Ascending_with_office new fs (not_further f fs new.number h) a.1)
