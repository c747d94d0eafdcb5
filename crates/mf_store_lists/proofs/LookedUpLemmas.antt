-- Things that are looked up one after another, by their numbers.
use Rattle.std.proofs.Common.{◌≡◌, ◌<◌, ◌≤◌, ◌+◌, ℕ, zero, suc, List, [], ◌∷◌, ◌++◌, length, take, get_or, slice_get}
use Rattle.std.proofs.Common.{Some, refl, sym, ap, ap₂, ◌∙◌, arith, inl, inr}
use Rattle.std.specs.List.{enumerate_from, flat_map}
use Rattle.std.proofs.lemmas.List.{append-nil, take_more, take_all}
use Rattle.std.proofs.lemmas.List.Concat.{flat_map-cons}
use Rattle.std.proofs.lemmas.List.FromFn.{get_or-enumerate_from, length-enumerate_from}
use Rattle.std.proofs.lemmas.Grind.{flat_map-append}
use Rattle.std.proofs.lemmas.Option.{slice_get-get_or, slice_get_cases, slice_get_within}
use Rattle.mf_model.specs.Institution.{item_numbered}
use Rattle.mf_model.proofs.Growing.{numbered_suc}
use Rattle.mf_store.proofs.CatalogueLemmas.{some_is}

-- the thing under the number behind one
numbered_next : {X : Type 0} (xs : List X) (n : ℕ) → item_numbered xs (n + 1) ≡ slice_get xs n
numbered_next xs n =
    let next : suc n ≡ n + 1 = omega arith in
    ap (item_numbered xs) (sym next) ∙ numbered_suc xs n

-- there is one where there are more
pub number_there : {X : Type 0} (xs : List X) (n : ℕ) → n < length xs
    → (x : X) × (item_numbered xs (n + 1) ≡ Some x)
number_there xs n low =
    elim (slice_get_cases xs n).1 [
      | inl found ↦ (found.0, numbered_next xs n ∙ found.2)
      | inr past ↦ absurd (omega (arith, low, past.0))
    ]

-- it stands behind those before it
one_more_numbered : {X : Type 0} (xs : List X) (n : ℕ) (x : X) → item_numbered xs (n + 1) ≡ Some x
    → take (n + 1) (enumerate_from 1 xs) ≡ take n (enumerate_from 1 xs) ++ (n + 1, x) ∷ []
one_more_numbered xs n x is =
    let at : slice_get xs n ≡ Some x = sym (numbered_next xs n) ∙ is in
    let low = slice_get_within xs n x at in
    let same : get_or xs n x ≡ x = sym (some_is (sym (slice_get-get_or xs n x low) ∙ at)) in
    let long = length-enumerate_from 1 xs in
    let next : 1 + n ≡ n + 1 = omega arith in
    take_more (enumerate_from 1 xs) n (0, x) (omega (arith, low, long))
    ∙ ap (λ c. take n (enumerate_from 1 xs) ++ c ∷ [])
    (get_or-enumerate_from 1 xs n (0, x) low ∙ ap₂ (λ a b. (a, b)) next same)

none_among : {A L : Type 0} (told : ℕ × A → List L) (after n m : ℕ) (xs : List A)
    → ((k : ℕ) (x : A) → k ≤ after → told (k, x) ≡ []) → n + m ≤ after + 1
    → flat_map told (take m (enumerate_from n xs)) ≡ []
none_among told after n zero xs none low = refl
none_among told after n (suc m) [] none low = refl
none_among told after n (suc m) (x ∷ xs) none low =
    flat_map-cons told (n, x) (take m (enumerate_from (n + 1) xs))
    ∙ ap (λ l. l ++ flat_map told (take m (enumerate_from (n + 1) xs))) (none n x (omega (arith, low)))
    ∙ none_among told after (n + 1) m xs none (omega (arith, low))

-- where none of the first is told
pub none_before : {A L : Type 0} (told : ℕ × A → List L) (after : ℕ) (xs : List A)
    → ((k : ℕ) (x : A) → k ≤ after → told (k, x) ≡ []) → flat_map told (take after (enumerate_from 1 xs)) ≡ []
none_before told after xs none = none_among told after 1 after xs none (omega arith)

-- one more is told of
pub told_next : {A L : Type 0} (told : ℕ × A → List L) (xs : List A) (n : ℕ) (x : A) (ls ms : List L)
    → item_numbered xs (n + 1) ≡ Some x → ls ≡ flat_map told (take n (enumerate_from 1 xs))
    → ms ≡ ls ++ told (n + 1, x) → ms ≡ flat_map told (take (n + 1) (enumerate_from 1 xs))
told_next told xs n x ls ms at before more =
    let all = enumerate_from 1 xs in
    let one = flat_map-cons told (n + 1, x) [] ∙ append-nil (told (n + 1, x)) in
    more ∙ ap (λ l. l ++ told (n + 1, x)) before
    ∙ sym (ap (flat_map told) (one_more_numbered xs n x at) ∙ flat_map-append told (take n all) ((n + 1, x) ∷ [])
    ∙ ap (λ l. flat_map told (take n all) ++ l) one)

-- all are told of
pub told_whole : {A L : Type 0} (told : ℕ × A → List L) (xs : List A) (n : ℕ) (ls : List L) → length xs ≤ n
    → ls ≡ flat_map told (take n (enumerate_from 1 xs)) → ls ≡ flat_map told (enumerate_from 1 xs)
told_whole told xs n ls past is =
    let long = length-enumerate_from 1 xs in
    is ∙ ap (flat_map told) (take_all n (enumerate_from 1 xs) (omega (arith, past, long)))
