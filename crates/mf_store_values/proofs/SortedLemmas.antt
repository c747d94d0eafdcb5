-- Lists that are sorted, of which no key comes twice; and the order of keys of several numbers.
use Rattle.std.proofs.Common.{◌≡◌, ◌<◌, ℕ, true, false, cond, List, [], ◌∷◌, refl, sym, ap, ◌∙◌, arith, Ordering, Less}
use Rattle.std.proofs.Common.{Equal, Greater, is_eq, is_gt, nat_cmp, true≢false}
use Rattle.std.specs.List.{AllByRecursion}
use Rattle.std.specs.Cmp.{IsTotalOrder}
use Rattle.std.specs.Ordering.{ordering_reverse, ordering_then}
use Rattle.std.proofs.lemmas.Bool.Decides.{nat_tests}
use Rattle.sqlite_keyed.proofs.ListLemmas.{all_weaker}
use Rattle.sqlite_keyed.specs.Lists.{insert_sorted, sort_by}
use Rattle.sqlite_trees.specs.Tree.{IsAscending}

-- a smaller first number decides
pub first_less : (x y : ℕ) (o : Ordering) → x < y → ordering_then (nat_cmp x y) o ≡ Less
first_less x y o h = grind (arith, nat_tests)

module _ {X : Type 0} (cmp : X → X → Ordering) where
  all_inserted : (P : X → Type 0) (r : X) (xs : List X) → P r → AllByRecursion P xs
      → AllByRecursion P (insert_sorted cmp r xs)
  all_inserted P r [] h all = (h, tt)
  all_inserted P r (x ∷ xs) h all = elim (is_gt (cmp r x)) as (λ b. AllByRecursion P (cond b (x
      ∷ insert_sorted cmp r xs) (r ∷ x ∷ xs))) [ true ↦ (all.0, all_inserted P r xs h all.1) | false ↦ (h, all) ]

  pub all_sorted : (P : X → Type 0) (xs : List X) → AllByRecursion P xs → AllByRecursion P (sort_by cmp xs)
  all_sorted P [] all = tt
  all_sorted P (x ∷ xs) all = all_inserted P x (sort_by cmp xs) all.0 (all_sorted P xs all.1)

module _ {X : Type 0} (cmp : X → X → Ordering) (total : IsTotalOrder cmp) where
  rises_inserted : (r : X) (xs : List X) → AllByRecursion (λ y. is_eq (cmp r y) ≡ false) xs
      → IsAscending (λ a b. cmp a b ≡ Less) xs → IsAscending (λ a b. cmp a b ≡ Less) (insert_sorted cmp r xs)
  rises_inserted r [] apart up = (tt, tt)
  rises_inserted r (x ∷ xs) apart up = go (cmp r x) refl (rises_inserted r xs apart.1 up.1)
    where
      go : (o : Ordering) → cmp r x ≡ o → IsAscending (λ a b. cmp a b ≡ Less) (insert_sorted cmp r xs)
          → IsAscending (λ a b. cmp a b ≡ Less) (cond (is_gt o) (x ∷ insert_sorted cmp r xs) (r ∷ x ∷ xs))
      go Less e more = (
        (e, all_weaker (λ y. cmp x y ≡ Less) (λ y. cmp r y ≡ Less) (λ y. total.trans r x y e) xs up.0),
        up,
      )
      go Equal e more = absurd (true≢false (sym (ap is_eq e) ∙ apart.0))
      go Greater e more =
          (all_inserted cmp (λ y. cmp x y ≡ Less) r xs (total.antisymm x r ∙ ap ordering_reverse e) up.0, more)

  pub rises_sorted : (xs : List X) → IsAscending (λ a b. is_eq (cmp a b) ≡ false) xs
      → IsAscending (λ a b. cmp a b ≡ Less) (sort_by cmp xs)
  rises_sorted [] apart = tt
  rises_sorted (x ∷ xs) apart = rises_inserted x (sort_by cmp xs) (all_sorted cmp (λ y. is_eq (cmp x y) ≡ false) xs
      apart.0) (rises_sorted xs apart.1)
