-- Rows that stand in a list, and lists that rise and have the same rows.
use Rattle.std.proofs.Common.{◌≡◌, ◌<◌, ◌∙◌, ◌⊎◌, ℕ, zero, suc, Bool, true, false, List, [], ◌∷◌, length}
use Rattle.std.proofs.Common.{◌||◌, ◌&&◌, ◌==◌, cond, eqb-true, Some, refl, sym, subst}
use Rattle.std.proofs.Common.{ap, arith, inl, inr, Ordering, Less, Equal, Greater, true≢false}
use Rattle.std.specs.Cmp.{IsTotalOrder}
use Rattle.std.specs.List.{AllByRecursion, Contains, list_any}
use Rattle.std.specs.Option.{is_some}
use Rattle.std.specs.Ordering.{ordering_reverse}
use Rattle.std.specs.Prelude.{find}
use Rattle.sqlite_trees.specs.Tree.{IsAscending}

module _ {R : Type 0} where
  pub contains_first : (r : R) (rs : List R) → Contains (r ∷ rs) r
  contains_first r rs = (0, omega arith, refl)

  pub contains_later : (r q : R) (rs : List R) → Contains rs q → Contains (r ∷ rs) q
  contains_later r q rs at = (suc at.0, (let low : at.0 < length rs = at.1 in omega arith), at.2)

  pub contains_cases : (r q : R) (rs : List R) → Contains (r ∷ rs) q → (r ≡ q) ⊎ Contains rs q
  contains_cases r q rs (zero, below, is) = inl is
  contains_cases r q rs (suc i, below, is) = inr (i, (let low : suc i < length (r ∷ rs) = below in omega arith), is)

  pub contains_none : (q : R) → ¬ Contains [] q
  contains_none q at = let low : at.0 < 0 = at.1 in omega arith

  pub each_at : (P : R → Type 0) (rows : List R) (q : R) → AllByRecursion P rows → Contains rows q → P q
  each_at P [] q all at = absurd (contains_none q at)
  each_at P (r ∷ rs) q all at =
      elim (contains_cases r q rs at) [ inl same ↦ subst P same all.0 | inr further ↦ each_at P rs q all.1 further ]

  -- each row of rows that are a list's is the list's
  pub each_within : (rows whole : List R) → ((q : R) → Contains rows q → Contains whole q)
      → AllByRecursion (λ r. Contains whole r) rows
  each_within [] whole h = tt
  each_within (r ∷ rs) whole h =
      (h r (contains_first r rs), each_within rs whole (λ q at. h q (contains_later r q rs at)))

  -- a test that passes for a row of the list
  pub any_there : (p : R → Bool) (rows : List R) → list_any p rows ≡ true → (r : R) × Contains rows r × (p r ≡ true)
  any_there p [] any = absurd (true≢false (sym any))
  any_there p (r ∷ rs) any = go (p r) refl (λ e. any_there p rs ((λ t. sym e t || list_any p rs) ∙ any))
    where
      go : (b : Bool) → p r ≡ b → (p r ≡ false → (q : R) × Contains rs q × (p q ≡ true))
          → (q : R) × Contains (r ∷ rs) q × (p q ≡ true)
      go true e more = (r, contains_first r rs, e)
      go false e more = let found = more e in (found.0, contains_later r found.0 rs found.1, found.2)

  -- a test that passes for a row of the list finds one
  pub any_from : (p : R → Bool) (rows : List R) (q : R) → Contains rows q → p q ≡ true → list_any p rows ≡ true
  any_from p [] q at is = absurd (contains_none q at)
  any_from p (r ∷ rs) q at is =
      elim (contains_cases r q rs at) [
        | inl same ↦ (λ t. (ap p same ∙ is) t || list_any p rs)
        | inr further ↦ go (p r) (any_from p rs q further is)
      ]
    where
      go : (b : Bool) → list_any p rs ≡ true → (b || list_any p rs) ≡ true
      go true e = refl
      go false e = e

  -- the test finds a row where it passes for one
  pub found_of_any : (p : R → Bool) (rows : List R) → list_any p rows ≡ true → is_some (find p rows) ≡ true
  found_of_any p [] any = absurd (true≢false (sym any))
  found_of_any p (r ∷ rs) any = go (p r) refl (λ e. found_of_any p rs ((λ t. sym e t || list_any p rs) ∙ any))
    where
      go : (b : Bool) → p r ≡ b → (p r ≡ false → is_some (find p rs) ≡ true) → is_some (find p (r ∷ rs)) ≡ true
      go true e more = (λ t. is_some (cond (e t) (Some r) (find p rs)))
      go false e more = (λ t. is_some (cond (e t) (Some r) (find p rs))) ∙ more e

-- two numbers that a test finds equal, and two more, are
pub both_equal : (a b c d : ℕ) → ((a == b) && (c == d)) ≡ true → (a ≡ b) × (c ≡ d)
both_equal a b c d e = go (a == b) refl e
  where
    go : (f : Bool) → (a == b) ≡ f → (f && (c == d)) ≡ true → (a ≡ b) × (c ≡ d)
    go true f e = (eqb-true a b f, eqb-true c d e)
    go false f e = absurd (true≢false (sym e))

-- ---- lists that rise

module _ {X : Type 0} (cmp : X → X → Ordering) (total : IsTotalOrder cmp) where
  abbrev pub IsRising : List X → Type 0
  IsRising = IsAscending (λ a b. cmp a b ≡ Less)

  not_both : (a b : X) → cmp a b ≡ Less → cmp b a ≡ Less → ⊥
  not_both a b up down =
      let back : cmp b a ≡ Greater = total.antisymm b a ∙ ap ordering_reverse up in
      let both : Less ≡ Greater = sym down ∙ back in cc

  -- lists that rise and have the same rows are one
  pub same_rising : (xs ys : List X) → IsRising xs → IsRising ys → AllByRecursion (λ x. Contains ys x) xs
      → AllByRecursion (λ y. Contains xs y) ys → xs ≡ ys
  same_rising [] [] up over there here = refl
  same_rising [] (y ∷ ys) up over there here = absurd (contains_none y here.0)
  same_rising (x ∷ xs) [] up over there here = absurd (contains_none x there.0)
  same_rising (x ∷ xs) (y ∷ ys) up over there here =
      let same : x ≡ y = heads (contains_cases y x ys there.0) (contains_cases x y xs here.0) in
      λ t. same t ∷ same_rising xs ys up.1 over.1
      (each_within xs ys (λ z at. tail ys y z (subst (λ a. cmp a z ≡ Less) same
      (each_at (λ a. cmp x a ≡ Less) xs z up.0 at)) (each_at (λ a. Contains (y ∷ ys) a) xs z there.1 at)))
      (each_within ys xs (λ z at. tail xs x z (subst (λ a. cmp a z ≡ Less) (sym same)
      (each_at (λ a. cmp y a ≡ Less) ys z over.0 at)) (each_at (λ a. Contains (x ∷ xs) a) ys z here.1 at))) t
    where
      heads : (y ≡ x) ⊎ Contains ys x → (x ≡ y) ⊎ Contains xs y → x ≡ y
      heads (inl same) other = sym same
      heads (inr later) (inl same) = same
      heads (inr later) (inr further) = absurd (not_both x y (each_at (λ a. cmp x a ≡ Less) xs y up.0 further)
          (each_at (λ a. cmp y a ≡ Less) ys x over.0 later))

      tail : (zs : List X) (head z : X) → cmp head z ≡ Less → Contains (head ∷ zs) z → Contains zs z
      tail zs head z low at =
          elim (contains_cases head z zs at) [
            | inl same ↦ (let less : cmp z z ≡ Less = subst (λ a. cmp a z ≡ Less) same low in
                absurd (not_both z z less less))
            | inr further ↦ further
          ]

  -- of rows that rise, two with one key are one
  pub one_of_key : (xs : List X) (a b : X) → IsRising xs → Contains xs a → Contains xs b → cmp a b ≡ Equal → a ≡ b
  one_of_key [] a b up here there tied = absurd (contains_none a here)
  one_of_key (x ∷ xs) a b up here there tied =
      elim (contains_cases x a xs here) [
        | inl same ↦ elim (contains_cases x b xs there) [
          | inl other ↦ sym same ∙ other
          | inr later ↦ absurd (
              let low : cmp a b ≡ Less =
              subst (λ q. cmp q b ≡ Less) same (each_at (λ q. cmp x q ≡ Less) xs b up.0 later) in
              let both : Less ≡ Equal = sym low ∙ tied in cc
              )
        ]
        | inr later ↦ elim (contains_cases x b xs there) [
          | inl other ↦ absurd (
              let low : cmp b a ≡ Less =
              subst (λ q. cmp q a ≡ Less) other (each_at (λ q. cmp x q ≡ Less) xs a up.0 later) in
              let back : cmp b a ≡ Equal = total.antisymm b a ∙ ap ordering_reverse tied in
              let both : Less ≡ Equal = sym low ∙ back in cc
              )
          | inr further ↦ one_of_key xs a b up.1 later further tied
        ]
      ]
