-- How deep an office stands, by the dots of its key.
use Rattle.std.proofs.Common.{◌≡◌, ◌↔◌, ℕ, zero, suc, ◌+◌, ◌^◌, ◌<◌, ◌≤◌, Bool, true, false, cond, List, [], ◌∷◌, ◌++◌}
use Rattle.std.proofs.Common.{Option, Some, None, refl, sym, ap, ◌∙◌, subst, arith}
use Rattle.std.specs.Prelude.{◌==◌, ◌||◌, decimal}
use Rattle.std.proofs.lemmas.Bool.Decides.{nat_tests}
use Rattle.std.proofs.lemmas.List.Sums.{sum_by-append}
use Rattle.mf_office.specs.Tree.{IsTreeOf, is_within, is_at_or_below}
use Rattle.mf_office.specs.Keys.{GrowsByParents, child_key, key_within, key_of, key_depth}
use Rattle.mf_office.proofs.TextLemmas.{NoDot, decimal_is}
use Rattle.mf_office.proofs.TreeLemmas.{within_none, within_some, zero_head, is_head, step_up, reaches}
use Rattle.mf_office.proofs.KeyLemmas.{key_of-head, key_of-child, key_none, key_some, key_ends, key_any, wide}

no_dots : (text : List ℕ) → NoDot text → key_depth text ≡ 0
no_dots [] h = refl
no_dots (c ∷ text) h = let rest = no_dots text h.1 in let other = h.0 in grind (arith, nat_tests)

depth_append : (a b : List ℕ) → key_depth (a ++ b) ≡ key_depth a + key_depth b
depth_append a b = sum_by-append (λ c. cond (c == 46) 1 0) a b

depth_child : (key : List ℕ) (n : ℕ) → n < 2 ^ 64 → key_depth (child_key key n) ≡ key_depth key + 1
depth_child key n small =
    let digits : key_depth (decimal n) ≡ 0 = no_dots (decimal n) (decimal_is n small).no_dot in
    let last : key_depth (decimal n ++ 46 ∷ []) ≡ key_depth (decimal n) + 1 = depth_append (decimal n) (46 ∷ []) in
    let all : key_depth (child_key key n) ≡ key_depth key + key_depth (decimal n ++ 46 ∷ []) =
    depth_append key (decimal n ++ 46 ∷ []) in
    omega arith

some_depth : (n : ℕ) (parents : ℕ → Option ℕ) (x : ℕ) → 1 ≤ key_depth (key_within n parents x)
some_depth n parents x =
    let q = key_ends n parents x (parents x) refl in
    let d : key_depth (key_within n parents x) ≡ key_depth q.0 + 1 = ap key_depth q.1 ∙ depth_append q.0 (46 ∷ []) in
    omega arith

depth_within : (n : ℕ) (there : ℕ → Bool) (parents : ℕ → Option ℕ) (x : ℕ) (o : Option ℕ) → IsTreeOf there parents
    → there x ≡ true → parents x ≡ o → key_depth (key_within n parents x) ≤ suc n
unfolding key_within
depth_within n there parents x None t here e = let d : key_depth (key_within n parents x) ≡ 1 =
    ap key_depth (key_none n parents x e) in omega arith
depth_within zero there parents x (Some p) t here e = omega arith
depth_within (suc n) there parents x (Some p) t here e =
    let ih : key_depth (key_within n parents p) ≤ suc n =
    depth_within n there parents p (parents p) t (t.parents_there x p here e) refl in
    let d : key_depth (key_within (suc n) parents x) ≡ key_depth (key_within n parents p) + 1 = ap key_depth
    (key_some n parents x p e) ∙ depth_child (key_within n parents p) x (wide there parents x t here) in
    omega arith

within_depth : (m k : ℕ) (there : ℕ → Bool) (parents : ℕ → Option ℕ) (x : ℕ) (o : Option ℕ) → IsTreeOf there parents
    → there x ≡ true → parents x ≡ o → is_within m parents x 1 ≡ true → key_depth (key_within m parents x) ≤ suc k
    → is_within k parents x 1 ≡ true
within_depth m k there parents x None t here e r d = let is : x ≡ 1 =
    is_head m parents x e r in within_none k parents x 1 e ∙ grind (arith, nat_tests)
within_depth zero k there parents x (Some p) t here e r d = absurd (zero_head there parents x p t e r)
within_depth (suc m) zero there parents x (Some p) t here e r d =
    let same : key_depth (key_within (suc m) parents x) ≡ key_depth (key_within m parents p) + 1 = ap key_depth
    (key_some m parents x p e) ∙ depth_child (key_within m parents p) x (wide there parents x t here) in
    let some = some_depth m parents p in
    absurd (omega arith)
within_depth (suc m) (suc k) there parents x (Some p) t here e r d =
    let same : key_depth (key_within (suc m) parents x) ≡ key_depth (key_within m parents p) + 1 = ap key_depth
    (key_some m parents x p e) ∙ depth_child (key_within m parents p) x (wide there parents x t here) in
    let ih : is_within k parents p 1 ≡ true = within_depth m k there parents p (parents p) t
    (t.parents_there x p here e) refl (step_up m there parents x p t e r) (omega arith) in
    within_some k parents x 1 p e ∙ ap (λ b. (x == 1) || b) ih ∙ or_true (x == 1)
  where
    or_true : (b : Bool) → (b || true) ≡ true
    or_true true = refl
    or_true false = refl

pub key_depth-most : (there : ℕ → Bool) (parents : ℕ → Option ℕ) → IsTreeOf there parents → (x : ℕ) → there x ≡ true
    → key_depth (key_of parents x) ≤ 6
unfolding key_of
key_depth-most there parents t x here = depth_within 5 there parents x (parents x) t here refl

pub key_depth-room : (there : ℕ → Bool) (parents : ℕ → Option ℕ) → IsTreeOf there parents → (x : ℕ) → there x ≡ true
    → (key_depth (key_of parents x) ≤ 5) ↔ (is_within 4 parents x 1 ≡ true)
unfolding key_of
key_depth-room there parents t x here = (
  λ d. within_depth 5 4 there parents x (parents x) t here refl (reaches there parents x t here) d,
  λ w. let same : key_depth (key_within 5 parents x) ≡ key_depth (key_within 4 parents x) =
      ap key_depth (key_any 5 4 there parents x (parents x) t refl (reaches there parents x t here) w) in
      let d : key_depth (key_within 4 parents x) ≤ suc 4 = depth_within 4 there parents x (parents x) t here refl in
      omega arith,
)

-- texts that grow by parents are the keys of a tree
grown_depth : (there : ℕ → Bool) (parents : ℕ → Option ℕ) (text : ℕ → List ℕ) → GrowsByParents there parents text
    → (x p : ℕ) → there x ≡ true → parents x ≡ Some p → key_depth (text x) ≡ key_depth (text p) + 1
grown_depth there parents text g x p here e =
    let r = g.numbered x here in
    ap key_depth (g.child_text x p here e) ∙ depth_child (text p) x (omega arith)

head_depth : (there : ℕ → Bool) (parents : ℕ → Option ℕ) (text : ℕ → List ℕ) → GrowsByParents there parents text
    → (x : ℕ) → there x ≡ true → parents x ≡ None → text x ≡ 46 ∷ []
head_depth there parents text g x here e = ap text (g.only_head x here e) ∙ g.head_text

text_depth : (there : ℕ → Bool) (parents : ℕ → Option ℕ) (text : ℕ → List ℕ) → GrowsByParents there parents text
    → (x : ℕ) (o : Option ℕ) → there x ≡ true → parents x ≡ o → 1 ≤ key_depth (text x)
text_depth there parents text g x None here e = let d : key_depth (text x) ≡ 1 =
    ap key_depth (head_depth there parents text g x here e) in omega arith
text_depth there parents text g x (Some p) here e = let d = grown_depth there parents text g x p here e in omega arith

grown_within : (k : ℕ) (there : ℕ → Bool) (parents : ℕ → Option ℕ) (text : ℕ → List ℕ)
    → GrowsByParents there parents text → (x : ℕ) (o : Option ℕ) → there x ≡ true → parents x ≡ o → key_depth (text x)
    ≤ suc k → (is_within k parents x 1 ≡ true) × (text x ≡ key_within k parents x)
grown_within k there parents text g x None here e d =
    let is : x ≡ 1 = g.only_head x here e in (
      within_none k parents x 1 e ∙ grind (arith, nat_tests),
      head_depth there parents text g x here e
          ∙ sym (key_none k parents x e),
    )
grown_within zero there parents text g x (Some p) here e d =
    let more = grown_depth there parents text g x p here e in
    let some = text_depth there parents text g p (parents p) (g.parents_there x p here e) refl in
    absurd (omega arith)
grown_within (suc k) there parents text g x (Some p) here e d =
    let more = grown_depth there parents text g x p here e in
    let up = grown_within k there parents text g p (parents p) (g.parents_there x p here e) refl (omega arith) in (
      within_some k parents x 1 p e ∙ ap (λ b. (x == 1) || b) up.0 ∙ or_true (x == 1),
      g.child_text x p here e ∙ ap (λ t. child_key t x) up.1 ∙ sym (key_some k parents x p e),
    )
  where
    or_true : (b : Bool) → (b || true) ≡ true
    or_true true = refl
    or_true false = refl

grown_tree : (there : ℕ → Bool) (parents : ℕ → Option ℕ) (text : ℕ → List ℕ) → GrowsByParents there parents text
    → IsTreeOf there parents × ((x : ℕ) → there x ≡ true → text x ≡ key_of parents x)
unfolding is_at_or_below key_of
grown_tree there parents text g = (
  record {
    numbered = g.numbered;
    head_there = g.head_there;
    head = g.head;
    parents_there = g.parents_there;
    all_below = λ x here. (grown_within 5 there parents text g x (parents x) here refl (g.depth x here)).0;
  },
  λ x here. (grown_within 5 there parents text g x (parents x) here refl (g.depth x here)).1,
)

tree_grows : (there : ℕ → Bool) (parents : ℕ → Option ℕ) (text : ℕ → List ℕ) → IsTreeOf there parents
    → ((x : ℕ) → there x ≡ true → text x ≡ key_of parents x) → GrowsByParents there parents text
tree_grows there parents text t keys = record {
  numbered = t.numbered;
  head_there = t.head_there;
  head = t.head;
  only_head = λ x here e. is_head 5 parents x e (reaches there parents x t here);
  parents_there = t.parents_there;
  head_text = keys 1 t.head_there ∙ key_of-head there parents t;
  child_text = λ x p here e. keys x here ∙ key_of-child there parents t x p here e ∙ ap (λ k. child_key k x)
      (sym (keys p (t.parents_there x p here e)));
  depth = λ x here. subst (λ (k : List ℕ). key_depth k ≤ 6) (sym (keys x here)) (key_depth-most there parents t x here);
}

pub grows_exactly : (there : ℕ → Bool) (parents : ℕ → Option ℕ) (text : ℕ → List ℕ) → GrowsByParents there parents text
    ↔ (IsTreeOf there parents × ((x : ℕ) → there x ≡ true → text x ≡ key_of parents x))
grows_exactly there parents text = (grown_tree there parents text, λ h. tree_grows there parents text h.0 h.1)
