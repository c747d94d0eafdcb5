-- The places of the cells, where what is due is taken first, are in the order of the words.
use Rattle.std.proofs.Common.{◌≡◌, ℕ, suc, ◌+◌, ◌-◌, ◌*◌, ◌<◌, ◌≤◌, ◌⊎◌, arith, ap, ◌∙◌, sym, refl, inl, inr}
use Rattle.std.proofs.Math.Nat.{mul-le-mul_right, suc-mul}
use Rattle.std.proofs.lemmas.Bool.{cases_lt}
use Rattle.mf_catalog.specs.declared.terms.StrategyName.TheVariants.{DueFirst}
use Rattle.mf_alloc.specs.declared.row.Cell.{Cell}
use Rattle.mf_alloc.specs.declared.row.Portion.{Portion}
use Rattle.mf_alloc.specs.declared.row.Portion.TheVariants.{Penalty, Fee, Interest, Principal}
use Rattle.mf_alloc.specs.Rows.{place_in_row}
use Rattle.mf_alloc.specs.Order.{standard, place_among, place_by}
use Rattle.mf_alloc.specs.OrderLaws.{place-here, place-later}
use Rattle.mf_alloc.specs.DueFirstLaw.{IsDue, IsBeforeOfDue, IsBeforeOfLater, IsBefore, DueComesFirst}

-- the place of a portion is that in a row, and each has its own
place-is : (p : Portion) → place_among standard p ≡ place_in_row p
place-is Penalty = refl
place-is Fee = refl
place-is Interest = refl
place-is Principal = refl

portion-at : (p : Portion) → standard (place_in_row p) ≡ p
portion-at Penalty = refl
portion-at Fee = refl
portion-at Interest = refl
portion-at Principal = refl

place-small : (p : Portion) → place_in_row p < 4
place-small Penalty = omega arith
place-small Fee = omega arith
place-small Interest = omega arith
place-small Principal = omega arith

place-own : (p q : Portion) → place_in_row p ≡ place_in_row q → p ≡ q
place-own p q same = sym (portion-at p) ∙ ap standard same ∙ portion-at q

-- of two numbers with two digits to a base, the one with the lower first digit is lower
less-first : (p q i j base : ℕ) → i < base → p < q → p * base + i < q * base + j
less-first p q i j base small less =
    let step : suc p * base ≤ q * base = mul-le-mul_right base (omega arith) in
    let one : suc p * base ≡ p * base + base = suc-mul p base in
    omega (arith, step, one)

first-less : (p q i j base : ℕ) → i < base → j < base → p * base + i < q * base + j → (p < q) ⊎ ((p ≡ q) × (i < j))
first-less p q i j base small_i small_j less =
    elim (cases_lt p q) [
      | inl lower ↦ inl lower
      | inr not_lower ↦
          elim (cases_lt q p) [
            | inl higher ↦ let other = less-first q p j i base small_j higher in absurd (omega (arith, other))
            | inr not_higher ↦
                let same : p ≡ q = omega arith in
                let rest : p * base ≡ q * base = ap (λ (x : ℕ). x * base) same in
                inr (same, omega (arith, rest))
          ]
    ]

-- the place of a cell that is due, and of one that is not
due-place : (due : ℕ) (c : Cell) → IsDue due c → place_by DueFirst due c ≡ place_in_row c.portion * due
    + (c.instalment - 1)
due-place due c is = place-here due c is ∙ ap (λ (x : ℕ). x * due + (c.instalment - 1)) (place-is c.portion)

later-place : (due : ℕ) (c : Cell) → due < c.instalment → place_by DueFirst due c ≡ 4 * (c.instalment - 1)
    + place_in_row c.portion
later-place due c later = place-later due c later ∙ ap (λ (x : ℕ). 4 * (c.instalment - 1) + x) (place-is c.portion)

-- a cell that is due stands among the first places
due-low : (due : ℕ) (c : Cell) → 1 ≤ c.instalment → IsDue due c → place_by DueFirst due c < 4 * due
due-low due c first is =
    let at = due-place due c is in
    let step : suc (place_in_row c.portion) * due ≤ 4 * due = mul-le-mul_right due (place-small c.portion) in
    let one : suc (place_in_row c.portion) * due ≡ place_in_row c.portion * due + due =
    suc-mul (place_in_row c.portion) due in
    omega (arith, at, step, one, first, is)

later-high : (due : ℕ) (c : Cell) → due < c.instalment → 4 * due ≤ place_by DueFirst due c
later-high due c later = let at = later-place due c later in omega (arith, at, later)

-- both due
due-forth : (due : ℕ) (a b : Cell) → 1 ≤ a.instalment → 1 ≤ b.instalment → IsDue due a → IsDue due b
    → place_by DueFirst due a < place_by DueFirst due b → IsBeforeOfDue a b
due-forth due a b first_a first_b due_a due_b less =
    let at_a = due-place due a due_a in
    let at_b = due-place due b due_b in
    let lower : place_in_row a.portion * due + (a.instalment - 1) < place_in_row b.portion * due + (b.instalment - 1) =
    omega (arith, at_a, at_b, less) in
    elim (first-less (place_in_row a.portion) (place_in_row b.portion) (a.instalment - 1) (b.instalment - 1) due
    (omega arith) (omega arith) lower) [
      | inl portion ↦ inl portion
      | inr both ↦ inr (place-own a.portion b.portion both.0, omega (arith, both.1))
    ]

due-back : (due : ℕ) (a b : Cell) → 1 ≤ a.instalment → 1 ≤ b.instalment → IsDue due a → IsDue due b → IsBeforeOfDue a b
    → place_by DueFirst due a < place_by DueFirst due b
due-back due a b first_a first_b due_a due_b before =
    let at_a = due-place due a due_a in
    let at_b = due-place due b due_b in
    elim before [
      | inl portion ↦
          let lower = less-first (place_in_row a.portion) (place_in_row b.portion) (a.instalment - 1) (b.instalment - 1)
          due (omega arith) portion in
          omega (arith, at_a, at_b, lower)
      | inr both ↦
          let same : place_in_row a.portion * due ≡ place_in_row b.portion * due =
          ap (λ (p : Portion). place_in_row p * due) both.0 in
          omega (arith, at_a, at_b, same, both.1, first_a)
    ]

-- neither due
later-forth : (due : ℕ) (a b : Cell) → due < a.instalment → due < b.instalment → place_by DueFirst due a
    < place_by DueFirst due b → IsBeforeOfLater a b
later-forth due a b later_a later_b less =
    let at_a = later-place due a later_a in
    let at_b = later-place due b later_b in
    let small_a = place-small a.portion in
    let small_b = place-small b.portion in
    elim (cases_lt a.instalment b.instalment) [
      | inl lower ↦ inl lower
      | inr not_lower ↦
          let same : a.instalment ≡ b.instalment = omega (arith, at_a, at_b, small_a, small_b, less) in
          inr (same, omega (arith, at_a, at_b, same, less))
    ]

later-back : (due : ℕ) (a b : Cell) → due < a.instalment → due < b.instalment → IsBeforeOfLater a b
    → place_by DueFirst due a < place_by DueFirst due b
later-back due a b later_a later_b before =
    let at_a = later-place due a later_a in
    let at_b = later-place due b later_b in
    let small_a = place-small a.portion in
    elim before [
      | inl lower ↦ omega (arith, at_a, at_b, small_a, lower)
      | inr both ↦ omega (arith, at_a, at_b, both.0, both.1)
    ]

forth : (due : ℕ) (a b : Cell) → 1 ≤ a.instalment → 1 ≤ b.instalment → place_by DueFirst due a < place_by DueFirst due b
    → IsBefore due a b
forth due a b first_a first_b less =
    elim (cases_lt due a.instalment) [
      | inl later_a ↦
          let not_a : ¬ IsDue due a = λ (is : IsDue due a). absurd (omega arith) in
          elim (cases_lt due b.instalment) [
            | inl later_b ↦
                let not_b : ¬ IsDue due b = λ (is : IsDue due b). absurd (omega arith) in
                inr (inr (not_a, not_b, later-forth due a b later_a later_b less))
            | inr due_b ↦
                let high = later-high due a later_a in
                let low = due-low due b first_b due_b in
                absurd (omega (arith, high, low, less))
          ]
      | inr due_a ↦
          elim (cases_lt due b.instalment) [
            | inl later_b ↦ let not_b : ¬ IsDue due b =
                λ (is : IsDue due b). absurd (omega arith) in inr (inl (due_a, not_b))
            | inr due_b ↦ inl (due_a, due_b, due-forth due a b first_a first_b due_a due_b less)
          ]
    ]

later-not : (due : ℕ) (c : Cell) → ¬ IsDue due c → due < c.instalment
later-not due c not_due =
    elim (cases_lt due c.instalment) [
      | inl later ↦ later
      | inr is ↦ absurd (not_due is)
    ]

back : (due : ℕ) (a b : Cell) → 1 ≤ a.instalment → 1 ≤ b.instalment → IsBefore due a b → place_by DueFirst due a
    < place_by DueFirst due b
back due a b first_a first_b before =
    elim before [
      | inl both ↦ due-back due a b first_a first_b both.0 both.1 both.2
      | inr some ↦
          elim some [
            | inl one ↦
                let low = due-low due a first_a one.0 in
                let high = later-high due b (later-not due b one.1) in
                omega (arith, low, high)
            | inr none ↦ later-back due a b (later-not due a none.0) (later-not due b none.1) none.2
          ]
    ]

pub due-comes_first : DueComesFirst
due-comes_first n due a b is_a is_b = (forth due a b is_a.first is_b.first, back due a b is_a.first is_b.first)
