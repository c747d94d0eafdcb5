-- Rows held against rows, place by place.
use Rattle.std.proofs.Common.{◌≡◌, ◌≢◌, ◌≤◌, ◌<◌, ℕ, zero, suc, ◌+◌, List, [], ◌∷◌, ◌++◌, take, length, slice_get}
use Rattle.std.proofs.Common.{Some, None, refl, sym, ap, ◌∙◌, subst, arith}
use Rattle.std.proofs.lemmas.List.{take_all}
use Rattle.mf_store_journal.proofs.PageLemmas.{take_next}
use Rattle.mf_store_played.specs.Played.{DiffersAt}

module _ {A : Type 0} where
  -- one more that is the same
  pub same_next : (xs ys : List A) (place : ℕ) (x y : A) → slice_get xs place ≡ Some x → slice_get ys place ≡ Some y
      → x ≡ y → take place xs ≡ take place ys → take (place + 1) xs ≡ take (place + 1) ys
  same_next xs ys place x y here there same before =
      let one : suc place ≡ place + 1 = omega arith in
      subst (λ n. take n xs ≡ take n ys) one
      (take_next xs place x here ∙ ap (λ l. l ++ x ∷ []) before ∙ ap (λ z. take place ys ++ z ∷ []) same
      ∙ sym (take_next ys place y there))

  none_past : (xs : List A) (place : ℕ) → length xs ≤ place → slice_get xs place ≡ None
  none_past [] place past = refl
  none_past (x ∷ xs) zero past = absurd (omega (arith, past))
  none_past (x ∷ xs) (suc place) past = none_past xs place (omega (arith, past))

  some_within : (xs : List A) (place : ℕ) → place < length xs → slice_get xs place ≢ None
  some_within [] place within is = absurd (omega (arith, within))
  some_within (x ∷ xs) zero within is = absurd (cc)
  some_within (x ∷ xs) (suc place) within is = some_within xs place (omega (arith, within)) is

  -- the first list is longer
  pub first_longer : (xs ys : List A) (place : ℕ) → place < length xs → length ys ≤ place
      → take place xs ≡ take place ys → DiffersAt xs ys place
  first_longer xs ys place within past before = record {
    before = before;
    there = λ same. some_within xs place within (same ∙ none_past ys place past);
  }

  -- the second is
  pub second_longer : (xs ys : List A) (place : ℕ) → length xs ≤ place → length xs < length ys → place ≤ length xs
      → take place xs ≡ take place ys → DiffersAt xs ys (length xs)
  second_longer xs ys place past longer within before =
      let here : place ≡ length xs = omega (arith, past, within) in record {
        before = subst (λ n. take n xs ≡ take n ys) here before;
        there = λ same. some_within ys (length xs) longer (sym same ∙ none_past xs (length xs) (omega arith));
      }

  -- both have an item, and they differ
  pub differ_there : (xs ys : List A) (place : ℕ) (x y : A) → slice_get xs place ≡ Some x
      → slice_get ys place ≡ Some y → x ≢ y → take place xs ≡ take place ys → DiffersAt xs ys place
  differ_there xs ys place x y here there others before = record {
    before = before;
    there = λ same. let both : Some x ≡ Some y = sym here ∙ same ∙ there in let e : x ≡ y = cc in others e;
  }

  -- neither goes on
  pub same_whole : (xs ys : List A) (place : ℕ) → length xs ≤ place → length ys ≤ place
      → take place xs ≡ take place ys → xs ≡ ys
  same_whole xs ys place past over before = sym (take_all place xs past) ∙ before ∙ take_all place ys over
