-- Who is at or below whom. An office's parent is all that counts, so each definition stands over the function of
-- parents.
use Rattle.std.specs.Prelude.{◌≡◌, ◌≢◌, ℕ, zero, suc, Bool, true, false, cond, ◌||◌, List, [], ◌∷◌, ◌==◌, Option, Some}
use Rattle.std.specs.Prelude.{None}
use Rattle.mf_office.specs.Numbers.{IsNumberUpTo}

-- there is a number, and it passes
abbrev pub option_any : Option ℕ → (ℕ → Bool) → Bool
option_any None f = false
option_any (Some p) f = f p

-- y is x, or one of the n next offices above x
unfoldable pub is_within : ℕ → (ℕ → Option ℕ) → ℕ → ℕ → Bool
is_within zero parents x y = x == y
is_within (suc n) parents x y = (x == y) || option_any (parents x) (λ p. is_within n parents p y)

-- x is y, or has a parent that is at or below y. A tree is at most six deep, so five steps lead up to the head
unfoldable pub is_at_or_below : (ℕ → Option ℕ) → ℕ → ℕ → Bool
is_at_or_below parents x y = is_within 5 parents x y

-- the same with no bound on the steps: x is y, or has a parent that is at or below y
pub data IsAtOrBelow (parents : ℕ → Option ℕ) (y : ℕ) : ℕ → Type 0 where
  itself : IsAtOrBelow parents y y
  by_parent : (x p : ℕ) → parents x ≡ Some p → IsAtOrBelow parents y p → IsAtOrBelow parents y x

-- the offices that are there form one tree from office 1, at most six deep
pub record IsTreeOf (there : ℕ → Bool) (parents : ℕ → Option ℕ) : Type 0 where
  pub numbered : (x : ℕ) → there x ≡ true → IsNumberUpTo 9999 x
  pub head_there : there 1 ≡ true
  pub head : parents 1 ≡ None
  pub parents_there : (x p : ℕ) → there x ≡ true → parents x ≡ Some p → there p ≡ true
  pub all_below : (x : ℕ) → there x ≡ true → is_at_or_below parents x 1 ≡ true

-- an office that is not there yet is put under office p, which is at most five deep
pub record AddsOffice (there : ℕ → Bool) (parents : ℕ → Option ℕ) (number p : ℕ) (there_after : ℕ → Bool)
    (parents_after : ℕ → Option ℕ) : Type 0 where
  pub in_range : IsNumberUpTo 9999 number
  pub unused : there number ≡ false
  pub parent_there : there p ≡ true
  pub not_too_deep : is_within 4 parents p 1 ≡ true
  pub parent_is : parents_after number ≡ Some p
  pub others : (x : ℕ) → x ≢ number → parents_after x ≡ parents x
  pub there_is : (x : ℕ) → there_after x ≡ ((x == number) || there x)

-- an office's number, and its parent's where it has one
pub record Place : Type 0 where
  pub number : ℕ
  pub parent : Option ℕ

-- the parent of office x, if x is there and has one
abbrev pub parent_among : List Place → ℕ → Option ℕ
parent_among [] x = None
parent_among (place ∷ places) x = cond (place.number == x) place.parent (parent_among places x)

-- an office with this number is among the places
abbrev pub is_among : List Place → ℕ → Bool
is_among [] x = false
is_among (place ∷ places) x = (place.number == x) || is_among places x

-- no number stands twice
abbrev pub EachNumberOnce : List Place → Type 0
EachNumberOnce [] = Unit {0}
EachNumberOnce (place ∷ places) = (is_among places place.number ≡ false) × EachNumberOnce places

-- a list of offices that is one tree from office 1, at most six deep
pub record AreOneTree (places : List Place) : Type 0 where
  pub once : EachNumberOnce places
  pub tree : IsTreeOf (is_among places) (parent_among places)

-- the head, 2 and 20 under it, and 5 under 2
abbrev pub small_tree : List Place
small_tree = record { number = 1; parent = None } ∷ record { number = 2; parent = Some 1 } ∷ record {
  number = 20;
  parent = Some 1;
} ∷ record { number = 5; parent = Some 2 } ∷ []
