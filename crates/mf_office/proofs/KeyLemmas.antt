-- One office's key begins another's exactly where the other is at or below it.
use Rattle.std.proofs.Common.{◌≡◌, ℕ, zero, suc, ◌^◌, ◌<◌, Bool, true, false, List, [], ◌∷◌, ◌++◌, Option, Some, None}
use Rattle.std.proofs.Common.{refl, sym, ap, ◌∙◌, subst, arith, append_assoc}
use Rattle.std.specs.Prelude.{◌==◌, ◌||◌, decimal}
use Rattle.std.proofs.lemmas.Bool.Decides.{nat_tests}
use Rattle.mf_office.specs.Tree.{IsTreeOf, AreOneTree, Place, is_among, parent_among, is_within, is_at_or_below}
use Rattle.mf_office.specs.Keys.{key_under, head_key, child_key, key_within, key_of, with_last_raised, is_in_range}
use Rattle.mf_office.specs.Keys.{EndsWithDot}
use Rattle.mf_office.proofs.TextLemmas.{ends_with_dot, starts_with, same_text, raised_is, range_is, last_part, parts}
use Rattle.mf_office.proofs.TextLemmas.{same_self, same_is, last_number, after_dot, last_of_digits, decimal_is}
use Rattle.mf_office.proofs.TreeLemmas.{within_none, within_some, step_up, is_head, zero_head, reaches}

-- one step of a key, by the parent
pub key_none : (n : ℕ) (parents : ℕ → Option ℕ) (x : ℕ) → parents x ≡ None → key_within n parents x ≡ 46 ∷ []
unfolding key_within
key_none zero parents x e = refl
key_none (suc n) parents x e = ap (λ q. key_under q (λ p. key_within n parents p) x) e

pub key_some : (n : ℕ) (parents : ℕ → Option ℕ) (x p : ℕ) → parents x ≡ Some p → key_within (suc n) parents x
    ≡ key_within n parents p ++ (decimal x ++ 46 ∷ [])
unfolding key_within
key_some n parents x p e = ap (λ q. key_under q (λ p. key_within n parents p) x) e

-- a key is the same from any height that reaches the head
pub key_any : (m n : ℕ) (there : ℕ → Bool) (parents : ℕ → Option ℕ) (x : ℕ) (q : Option ℕ) → IsTreeOf there parents
    → parents x ≡ q → is_within m parents x 1 ≡ true → is_within n parents x 1 ≡ true → key_within m parents x
    ≡ key_within n parents x
key_any m n there parents x None t e h k = key_none m parents x e ∙ sym (key_none n parents x e)
key_any zero n there parents x (Some p) t e h k = absurd (zero_head there parents x p t e h)
key_any (suc m) zero there parents x (Some p) t e h k = absurd (zero_head there parents x p t e k)
key_any (suc m) (suc n) there parents x (Some p) t e h k =
    key_some m parents x p e
    ∙ ap (λ a. a ++ (decimal x ++ 46 ∷ [])) (key_any m n there parents p (parents p) t refl (step_up m there parents x p
    t e h) (step_up n there parents x p t e k))
    ∙ sym (key_some n parents x p e)

-- it ends with a dot
pub key_ends : (n : ℕ) (parents : ℕ → Option ℕ) (x : ℕ) (o : Option ℕ) → parents x ≡ o → (q : List ℕ)
    × (key_within n parents x ≡ q ++ 46 ∷ [])
unfolding key_within
key_ends zero parents x o e = ([], refl)
key_ends (suc n) parents x None e = ([], key_none (suc n) parents x e)
key_ends (suc n) parents x (Some p) e = (
  key_within n parents p ++ decimal x,
  key_some n parents x p e
      ∙ sym (append_assoc (key_within n parents p) (decimal x) (46 ∷ [])),
)

-- its last number is the office's own, and 0 at the head
last_some : (n : ℕ) (parents : ℕ → Option ℕ) (x p : ℕ) → x < 2 ^ 64 → parents x ≡ Some p
    → last_number 0 0 (key_within (suc n) parents x) ≡ x
last_some n parents x p lt e =
    let q = key_ends n parents p (parents p) refl in
    let d = decimal_is x lt in
    let a = after_dot q.0 (decimal x ++ 46 ∷ []) 0 0 in
    ap (last_number 0 0) (key_some n parents x p e ∙ ap (λ z. z ++ (decimal x ++ 46 ∷ [])) q.1
    ∙ append_assoc q.0 (46 ∷ []) (decimal x ++ 46 ∷ []))
    ∙ a.1 ∙ last_of_digits (decimal x) 0 a.0 d.no_dot ∙ d.value_is

pub wide : (there : ℕ → Bool) (parents : ℕ → Option ℕ) (x : ℕ) → IsTreeOf there parents → there x ≡ true → x < 2 ^ 64
wide there parents x t here = let r = t.numbered x here in omega arith

-- offices with one key are one
same_office : (there : ℕ → Bool) (parents : ℕ → Option ℕ) (x y : ℕ) (a b : Option ℕ) → IsTreeOf there parents → there x
    ≡ true → there y ≡ true → parents x ≡ a → parents y ≡ b → key_within 5 parents x ≡ key_within 5 parents y → x ≡ y
same_office there parents x y None None t xt yt e f same =
    is_head 5 parents x e (reaches there parents x t xt) ∙ sym (is_head 5 parents y f (reaches there parents y t yt))
same_office there parents x y (Some p) (Some q) t xt yt e f same =
    sym (last_some 4 parents x p (wide there parents x t xt) e) ∙ ap (last_number 0 0) same
    ∙ last_some 4 parents y q (wide there parents y t yt) f
same_office there parents x y None (Some q) t xt yt e f same =
    let r = t.numbered y yt in
    let z : 0 ≡ y = ap (last_number 0 0) (sym (key_none 5 parents x e)) ∙ ap (last_number 0 0) same
    ∙ last_some 4 parents y q (wide there parents y t yt) f in
    absurd (omega arith)
same_office there parents x y (Some p) None t xt yt e f same =
    let r = t.numbered x xt in
    let z : 0 ≡ x = ap (last_number 0 0) (sym (key_none 5 parents y f)) ∙ ap (last_number 0 0) (sym same)
    ∙ last_some 4 parents x p (wide there parents x t xt) e in
    absurd (omega arith)

same_key : (there : ℕ → Bool) (parents : ℕ → Option ℕ) (x y : ℕ) → IsTreeOf there parents → there x ≡ true
    → there y ≡ true → same_text (key_within 5 parents y) (key_within 5 parents x) ≡ (x == y)
same_key there parents x y t xt yt = step (same_text (key_within 5 parents y) (key_within 5 parents x))
    (x == y) refl refl
  where
    step : (b c : Bool) → same_text (key_within 5 parents y) (key_within 5 parents x) ≡ b → (x == y) ≡ c → b ≡ c
    step true true s e = refl
    step false false s e = refl
    step true false s e = absurd (let same : y ≡ x = same_office there parents y x (parents y) (parents x) t yt xt refl
        refl (same_is (key_within 5 parents y) (key_within 5 parents x) s) in grind (arith, nat_tests))
    step false true s e = absurd (let is : y ≡ x = grind (arith, nat_tests) in
        let k : same_text (key_within 5 parents y) (key_within 5 parents x) ≡ true = subst (λ (z : ℕ). same_text
        (key_within 5 parents y) (key_within 5 parents z) ≡ true) is (same_self (key_within 5 parents y)) in cc)

or_swap : (a b : Bool) → (a || b) ≡ (b || a)
or_swap true true = refl
or_swap true false = refl
or_swap false true = refl
or_swap false false = refl

-- from any height up to five
begins : (n : ℕ) (there : ℕ → Bool) (parents : ℕ → Option ℕ) (x y : ℕ) (o : Option ℕ) → IsTreeOf there parents
    → there x ≡ true → there y ≡ true → is_within n parents x 1 ≡ true → parents x ≡ o
    → starts_with (key_within 5 parents y) (key_within n parents x) ≡ is_within n parents x y
begins n there parents x y None t xt yt r e =
    let q = key_ends 5 parents y (parents y) refl in
    ap (starts_with (key_within 5 parents y)) (key_none n parents x e)
    ∙ ap (λ z. starts_with z (46 ∷ [])) q.1
    ∙ last_part q.0 [] tt
    ∙ ap (λ z. same_text z (46 ∷ [])) (sym q.1)
    ∙ ap (same_text (key_within 5 parents y)) (sym (key_none 5 parents x e))
    ∙ same_key there parents x y t xt yt
    ∙ sym (within_none n parents x y e)
begins zero there parents x y (Some p) t xt yt r e = absurd (zero_head there parents x p t e r)
begins (suc n) there parents x y (Some p) t xt yt r e =
    let q = key_ends 5 parents y (parents y) refl in
    let d = decimal_is x (wide there parents x t xt) in
    let up = t.parents_there x p xt e in
    let k : key_within 5 parents x ≡ key_within n parents p ++ (decimal x ++ 46 ∷ []) =
    key_any 5 (suc n) there parents x (Some p) t e (reaches there parents x t xt) r ∙ key_some n parents x p e in
    ap (starts_with (key_within 5 parents y)) (key_some n parents x p e)
    ∙ ap (λ z. starts_with z (key_within n parents p ++ (decimal x ++ 46 ∷ []))) q.1
    ∙ parts q.0 (key_within n parents p) (decimal x) d.no_dot
    ∙ ap (λ z. starts_with z (key_within n parents p) || same_text z (key_within n parents p ++ (decimal x ++ 46 ∷ [])))
    (sym q.1)
    ∙ ap (λ z. starts_with (key_within 5 parents y) (key_within n parents p) || same_text (key_within 5 parents y) z)
    (sym k)
    ∙ ap (λ b. starts_with (key_within 5 parents y) (key_within n parents p) || b) (same_key there parents x y t xt yt)
    ∙ ap (λ b. b || (x == y)) (begins n there parents p y (parents p) t up yt (step_up n there parents x p t e r) refl)
    ∙ or_swap (is_within n parents p y) (x == y)
    ∙ sym (within_some n parents x y p e)

-- the range of a key is the subtree
pub range_below : (there : ℕ → Bool) (parents : ℕ → Option ℕ) → IsTreeOf there parents → (x y : ℕ) → there x ≡ true
    → there y ≡ true → is_in_range (key_of parents y) (with_last_raised (key_of parents y)) (key_of parents x)
    ≡ is_at_or_below parents x y
unfolding key_of is_at_or_below
range_below there parents t x y xt yt =
    let q = key_ends 5 parents y (parents y) refl in
    ap (λ z. is_in_range z (with_last_raised z) (key_within 5 parents x)) q.1
    ∙ ap (λ z. is_in_range (q.0 ++ 46 ∷ []) z (key_within 5 parents x)) (raised_is q.0)
    ∙ range_is q.0 (key_within 5 parents x)
    ∙ ap (λ z. starts_with z (key_within 5 parents x)) (sym q.1)
    ∙ begins 5 there parents x y (parents x) t xt yt (reaches there parents x t xt) refl

-- the keys of the head and of a child
pub key_of-head : (there : ℕ → Bool) (parents : ℕ → Option ℕ) → IsTreeOf there parents → key_of parents 1 ≡ head_key
unfolding key_of
key_of-head there parents t = key_none 5 parents 1 t.head

pub key_of-child : (there : ℕ → Bool) (parents : ℕ → Option ℕ) → IsTreeOf there parents → (x p : ℕ) → there x ≡ true
    → parents x ≡ Some p → key_of parents x ≡ child_key (key_of parents p) x
unfolding key_of
key_of-child there parents t x p here e =
    let r = reaches there parents x t here in
    key_some 4 parents x p e
    ∙ ap (λ a. child_key a x) (key_any 4 5 there parents p (parents p) t refl (step_up 4 there parents x p t e r)
    (reaches there parents p t (t.parents_there x p here e)))

pub range_of_tree : (low high key : List ℕ) (r : Bool) → r ≡ is_in_range low high key → (places : List Place)
    → AreOneTree places → (x y : ℕ) → is_among places x ≡ true → is_among places y ≡ true
    → low ≡ key_of (parent_among places) y → high ≡ with_last_raised (key_of (parent_among places) y)
    → key ≡ key_of (parent_among places) x → r ≡ is_at_or_below (parent_among places) x y
range_of_tree low high key r v places t x y xt yt l h k =
    let same : is_in_range low high key ≡ is_in_range (key_of (parent_among places) y)
    (with_last_raised (key_of (parent_among places) y)) (key_of (parent_among places) x) = cc in
    v ∙ same ∙ range_below (is_among places) (parent_among places) t.tree x y xt yt

pub key_of-ends : (parents : ℕ → Option ℕ) (x : ℕ) → EndsWithDot (key_of parents x)
unfolding key_of
key_of-ends parents x = let q = key_ends 5 parents x (parents x) refl in subst EndsWithDot (sym q.1) (ends_with_dot q.0)

pub key_of-apart : (there : ℕ → Bool) (parents : ℕ → Option ℕ) → IsTreeOf there parents → (x y : ℕ) → there x ≡ true
    → there y ≡ true → key_of parents x ≡ key_of parents y → x ≡ y
unfolding key_of
key_of-apart there parents t x y xt yt same =
    same_office there parents x y (parents x) (parents y) t xt yt refl refl same
