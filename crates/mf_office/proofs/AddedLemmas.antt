-- One more office in a tree, and how deep an office stands.
use Rattle.std.proofs.Common.{◌≡◌, ◌≢◌, ℕ, zero, suc, Bool, true, false, Option, Some, None, refl, sym, ap, ◌∙◌, subst}
use Rattle.std.proofs.Common.{arith}
use Rattle.std.specs.Prelude.{◌==◌, ◌||◌}
use Rattle.std.proofs.lemmas.Bool.Decides.{nat_tests}
use Rattle.mf_office.specs.Numbers.{IsNumberUpTo}
use Rattle.mf_office.specs.Tree.{IsTreeOf, AddsOffice, is_within, is_at_or_below}
use Rattle.mf_office.specs.Keys.{child_key, key_within, key_of}
use Rattle.mf_office.proofs.TreeLemmas.{within_none, within_some, within_zero, within_stable, reaches}
use Rattle.mf_office.proofs.KeyLemmas.{key_none, key_some, key_any}

-- the same parents for all that are there
agree_within : (n : ℕ) (there : ℕ → Bool) (old new : ℕ → Option ℕ) (x y : ℕ) (o : Option ℕ) → IsTreeOf there old
    → ((z : ℕ) → there z ≡ true → new z ≡ old z) → there x ≡ true → old x ≡ o → is_within n new x y
    ≡ is_within n old x y
agree_within n there old new x y None t same here e =
    within_none n new x y (same x here ∙ e) ∙ sym (within_none n old x y e)
agree_within zero there old new x y (Some p) t same here e = within_zero new x y ∙ sym (within_zero old x y)
agree_within (suc n) there old new x y (Some p) t same here e =
    within_some n new x y p (same x here ∙ e)
    ∙ ap (λ b. (x == y) || b) (agree_within n there old new p y (old p) t same (t.parents_there x p here e) refl)
    ∙ sym (within_some n old x y p e)

agree_key : (n : ℕ) (there : ℕ → Bool) (old new : ℕ → Option ℕ) (x : ℕ) (o : Option ℕ) → IsTreeOf there old
    → ((z : ℕ) → there z ≡ true → new z ≡ old z) → there x ≡ true → old x ≡ o → key_within n new x ≡ key_within n old x
unfolding key_within
agree_key n there old new x None t same here e = key_none n new x (same x here ∙ e) ∙ sym (key_none n old x e)
agree_key zero there old new x (Some p) t same here e = refl
agree_key (suc n) there old new x (Some p) t same here e =
    key_some n new x p (same x here ∙ e)
    ∙ ap (λ a. child_key a x) (agree_key n there old new p (old p) t same (t.parents_there x p here e) refl)
    ∙ sym (key_some n old x p e)

-- an office added
other_than : (there : ℕ → Bool) (number x : ℕ) → there number ≡ false → there x ≡ true → x ≢ number
other_than there number x unused here e = let clash : there number ≡ true =
    subst (λ (z : ℕ). there z ≡ true) e here in absurd (cc)

same_old : (there after_there : ℕ → Bool) (parents after : ℕ → Option ℕ) (number p : ℕ)
    → AddsOffice there parents number p after_there after → (z : ℕ) → there z ≡ true → after z ≡ parents z
same_old there after_there parents after number p a z here = a.others z (other_than there number z a.unused here)

still_there : (there after_there : ℕ → Bool) (parents after : ℕ → Option ℕ) (number p : ℕ)
    → AddsOffice there parents number p after_there after → (z : ℕ) → there z ≡ true → after_there z ≡ true
still_there there after_there parents after number p a z here = a.there_is z ∙ ap (λ b. (z == number) || b) here
    ∙ or_true (z == number)
  where
    or_true : (b : Bool) → (b || true) ≡ true
    or_true true = refl
    or_true false = refl

was_there : (there after_there : ℕ → Bool) (parents after : ℕ → Option ℕ) (number p : ℕ) → AddsOffice there parents
    number p after_there after → (z : ℕ) → after_there z ≡ true → (z == number) ≡ false → there z ≡ true
was_there there after_there parents after number p a z here other =
    ap (λ b. b || there z) (sym other) ∙ sym (a.there_is z) ∙ here

same_number : (x y : ℕ) → (x == y) ≡ true → x ≡ y
same_number x y h = grind (arith, nat_tests)

not_same : (x y : ℕ) → (x == y) ≡ false → x ≢ y
not_same x y h = grind (arith, nat_tests)

pub added_below : (there after_there : ℕ → Bool) (parents after : ℕ → Option ℕ) (number p : ℕ) → IsTreeOf there parents
    → AddsOffice there parents number p after_there after → (x y : ℕ) → there x ≡ true → is_at_or_below after x y
    ≡ is_at_or_below parents x y
unfolding is_at_or_below
added_below there after_there parents after number p t a x y here =
    agree_within 5 there parents after x y (parents x) t (same_old there after_there parents after number p a) here refl

new_within : (there after_there : ℕ → Bool) (parents after : ℕ → Option ℕ) (number p : ℕ) → IsTreeOf there parents
    → AddsOffice there parents number p after_there after → (y : ℕ) → is_within 5 after number y
    ≡ ((number == y) || is_within 4 parents p y)
new_within there after_there parents after number p t a y =
    within_some 4 after number y p a.parent_is
    ∙ ap (λ b. (number == y) || b) (agree_within 4 there parents after p y (parents p) t (same_old there after_there
    parents after number p a) a.parent_there refl)

pub added_itself : (there after_there : ℕ → Bool) (parents after : ℕ → Option ℕ) (number p : ℕ) → IsTreeOf there parents
    → AddsOffice there parents number p after_there after → (y : ℕ) → is_at_or_below after number y
    ≡ ((number == y) || is_at_or_below parents p y)
unfolding is_at_or_below
added_itself there after_there parents after number p t a y =
    new_within there after_there parents after number p t a y
    ∙ ap (λ b. (number == y) || b) (sym (within_stable 4 there parents p y (parents p) t a.not_too_deep refl))

pub added_keys : (there after_there : ℕ → Bool) (parents after : ℕ → Option ℕ) (number p : ℕ) → IsTreeOf there parents
    → AddsOffice there parents number p after_there after → (x : ℕ) → there x ≡ true → key_of after x ≡ key_of parents x
unfolding key_of
added_keys there after_there parents after number p t a x here =
    agree_key 5 there parents after x (parents x) t (same_old there after_there parents after number p a) here refl

pub added_key : (there after_there : ℕ → Bool) (parents after : ℕ → Option ℕ) (number p : ℕ) → IsTreeOf there parents
    → AddsOffice there parents number p after_there after → key_of after number ≡ child_key (key_of parents p) number
unfolding key_of
added_key there after_there parents after number p t a =
    key_some 4 after number p a.parent_is
    ∙ ap (λ k. child_key k number) (agree_key 4 there parents after p (parents p) t (same_old there after_there parents
    after number p a) a.parent_there refl
    ∙ key_any 4 5 there parents p (parents p) t refl a.not_too_deep (reaches there parents p t a.parent_there))

numbered : (there after_there : ℕ → Bool) (parents after : ℕ → Option ℕ) (number p : ℕ) → IsTreeOf there parents
    → AddsOffice there parents number p after_there after → (x : ℕ) (b : Bool) → (x == number) ≡ b → after_there x
    ≡ true → IsNumberUpTo 9999 x
numbered there after_there parents after number p t a x true e here =
    subst (IsNumberUpTo 9999) (sym (same_number x number e)) a.in_range
numbered there after_there parents after number p t a x false e here =
    t.numbered x (was_there there after_there parents after number p a x here e)

parents_there : (there after_there : ℕ → Bool) (parents after : ℕ → Option ℕ) (number p : ℕ) → IsTreeOf there parents
    → AddsOffice there parents number p after_there after → (x q : ℕ) (b : Bool) → (x == number) ≡ b → after_there x
    ≡ true → after x ≡ Some q → after_there q ≡ true
parents_there there after_there parents after number p t a x q true e here up =
    let is : x ≡ number = same_number x number e in
    let mine : after number ≡ Some q = subst (λ (z : ℕ). after z ≡ Some q) is up in
    let theirs : after number ≡ Some p = a.parent_is in
    let same : p ≡ q = cc in
    subst (λ (z : ℕ). after_there z ≡ true) same (still_there there after_there parents after number p a p
    a.parent_there)
parents_there there after_there parents after number p t a x q false e here up =
    still_there there after_there parents after number p a q
    (t.parents_there x q (was_there there after_there parents after number p a x here e)
    (sym (a.others x (not_same x number e)) ∙ up))

all_below : (there after_there : ℕ → Bool) (parents after : ℕ → Option ℕ) (number p : ℕ) → IsTreeOf there parents
    → AddsOffice there parents number p after_there after → (x : ℕ) (b : Bool) → (x == number) ≡ b → after_there x
    ≡ true → is_at_or_below after x 1 ≡ true
unfolding is_at_or_below
all_below there after_there parents after number p t a x true e here =
    ap (λ (z : ℕ). is_within 5 after z 1) (same_number x number e)
    ∙ new_within there after_there parents after number p t a 1
    ∙ ap (λ b. (number == 1) || b) a.not_too_deep
    ∙ or_true (number == 1)
  where
    or_true : (b : Bool) → (b || true) ≡ true
    or_true true = refl
    or_true false = refl
all_below there after_there parents after number p t a x false e here =
    let was = was_there there after_there parents after number p a x here e in
    added_below there after_there parents after number p t a x 1 was ∙ t.all_below x was

pub added_tree : (there after_there : ℕ → Bool) (parents after : ℕ → Option ℕ) (number p : ℕ) → IsTreeOf there parents
    → AddsOffice there parents number p after_there after → IsTreeOf after_there after
added_tree there after_there parents after number p t a = record {
  numbered = λ x here. numbered there after_there parents after number p t a x (x == number) refl here;
  head_there = still_there there after_there parents after number p a 1 t.head_there;
  head = same_old there after_there parents after number p a 1 t.head_there ∙ t.head;
  parents_there = λ x q here up. parents_there there after_there parents after number p t a x q (x == number) refl here
      up;
  all_below = λ x here. all_below there after_there parents after number p t a x (x == number) refl here;
}
