-- An order by instalment is lawful where its four portions have places of their own.
use Rattle.std.proofs.Common.{◌≡◌, ℕ, ◌+◌, ◌-◌, ◌*◌, ◌/◌, ◌%◌, ◌<◌, ◌≤◌, leb, ltb, arith, ap, ◌∙◌, sym, refl, subst}
use Rattle.std.proofs.Common.{inl, inr}
use Rattle.std.proofs.Math.Nat.{div-lt_iff_lt-mul}
use Rattle.std.proofs.lemmas.Bool.{cases_eq, cases_lt, cond-true, cond-false, lt-ltb, le-ltb, le-leb, lt-leb}
use Rattle.std.proofs.lemmas.Nat.{div-add-mod', div-mul-add, mod-mul-add}
use Rattle.mf_alloc.specs.declared.row.Cell.{Cell}
use Rattle.mf_alloc.specs.declared.row.Portion.{Portion}
use Rattle.mf_alloc.specs.declared.row.Portion.TheVariants.{Penalty, Fee, Interest, Principal}
use Rattle.mf_alloc.specs.Rows.{IsCell}
use Rattle.mf_catalog.specs.declared.terms.StrategyName.{StrategyName}
use Rattle.mf_catalog.specs.declared.terms.StrategyName.TheVariants.{MifosStandard, PrincipalFirst, InterestFirst}
use Rattle.mf_catalog.specs.declared.terms.StrategyName.TheVariants.{DueFirst}
use Rattle.mf_alloc.specs.Order.{cell_by, place_by, due_first, due_first_place, in_order_of_instalments}
use Rattle.mf_alloc.specs.Order.{place_by_instalment}
use Rattle.mf_alloc.specs.Order.{standard, portion_by, place_among}

-- the portions and their places
pub record ArePlaces (portions : ℕ → Portion) (place : Portion → ℕ) : Type 0 where
  pub there : (k : ℕ) → k < 4 → place (portions k) ≡ k
  pub back : (p : Portion) → portions (place p) ≡ p
  pub small : (p : Portion) → place p < 4

pub is_cell-by_instalment : (portions : ℕ → Portion) (n k : ℕ) → k < 4 * n
    → IsCell n (in_order_of_instalments portions k)
is_cell-by_instalment portions n k within = record { first = omega arith; last = omega arith }

pub back-by_instalment : (portions : ℕ → Portion) (place : Portion → ℕ) (k : ℕ) → ArePlaces portions place
    → place_by_instalment place (in_order_of_instalments portions k) ≡ k
back-by_instalment portions place k are =
    let same : place (portions (k % 4)) ≡ k % 4 = are.there (k % 4) (omega arith) in
    omega (arith, same)

pub in_range-by_instalment : (portions : ℕ → Portion) (place : Portion → ℕ) (n : ℕ) (c : Cell)
    → ArePlaces portions place → IsCell n c → place_by_instalment place c < 4 * n
in_range-by_instalment portions place n c are is =
    let small : place c.portion < 4 = are.small c.portion in
    omega (arith, small, is.first, is.last)

pub forth-by_instalment : (portions : ℕ → Portion) (place : Portion → ℕ) (n : ℕ) (c : Cell) → ArePlaces portions place
    → IsCell n c → in_order_of_instalments portions (place_by_instalment place c) ≡ c
forth-by_instalment portions place n c are is =
    let small : place c.portion < 4 = are.small c.portion in
    let quotient : (4 * (c.instalment - 1) + place c.portion) / 4 + 1 ≡ c.instalment = omega (arith, small, is.first) in
    let rest : (4 * (c.instalment - 1) + place c.portion) % 4 ≡ place c.portion = omega (arith, small) in
    let at : ℕ → Portion → Cell = λ x y. record { instalment = x; portion = y } in
    ap (λ x. at x (portions ((4 * (c.instalment - 1) + place c.portion) % 4))) quotient
    ∙ ap (λ y. at c.instalment (portions y)) rest
    ∙ ap (λ y. at c.instalment y) (are.back c.portion)

-- what holds of 0, 1, 2 and 3 holds below 4
four : (P : ℕ → Type 0) → P 0 → P 1 → P 2 → P 3 → (k : ℕ) → k < 4 → P k
four P a b c d k within =
    elim (cases_eq k 0) [
      | inl e ↦ subst P (sym e) a
      | inr n0 ↦
          elim (cases_eq k 1) [
            | inl e ↦ subst P (sym e) b
            | inr n1 ↦
                elim (cases_eq k 2) [
                  | inl e ↦ subst P (sym e) c
                  | inr n2 ↦
                      let e : k ≡ 3 = omega arith in subst P (sym e) d
                ]
          ]
    ]

-- the places of a strategy's portions
pub places_by : (name : StrategyName) → ArePlaces (portion_by name) (place_among (portion_by name))
places_by MifosStandard = record {
  there = four (λ k. place_among (portion_by MifosStandard) (portion_by MifosStandard k) ≡ k) refl refl refl refl;
  back = elim [ Penalty ↦ refl | Fee ↦ refl | Interest ↦ refl | Principal ↦ refl ];
  small = elim [ Penalty ↦ omega arith | Fee ↦ omega arith | Interest ↦ omega arith | Principal ↦ omega arith ];
}
places_by PrincipalFirst = record {
  there = four (λ k. place_among (portion_by PrincipalFirst) (portion_by PrincipalFirst k) ≡ k) refl refl refl refl;
  back = elim [ Penalty ↦ refl | Fee ↦ refl | Interest ↦ refl | Principal ↦ refl ];
  small = elim [ Penalty ↦ omega arith | Fee ↦ omega arith | Interest ↦ omega arith | Principal ↦ omega arith ];
}
places_by InterestFirst = record {
  there = four (λ k. place_among (portion_by InterestFirst) (portion_by InterestFirst k) ≡ k) refl refl refl refl;
  back = elim [ Penalty ↦ refl | Fee ↦ refl | Interest ↦ refl | Principal ↦ refl ];
  small = elim [ Penalty ↦ omega arith | Fee ↦ omega arith | Interest ↦ omega arith | Principal ↦ omega arith ];
}
places_by DueFirst = record {
  there = four (λ k. place_among (portion_by DueFirst) (portion_by DueFirst k) ≡ k) refl refl refl refl;
  back = elim [ Penalty ↦ refl | Fee ↦ refl | Interest ↦ refl | Principal ↦ refl ];
  small = elim [ Penalty ↦ omega arith | Fee ↦ omega arith | Interest ↦ omega arith | Principal ↦ omega arith ];
}

standard_places : ArePlaces standard (place_among standard)
standard_places = places_by DueFirst

-- due first, at a place of what is due and at a later one
due-here : (due k : ℕ) → k < 4 * due → due_first due k ≡ record {
  instalment = k % due + 1;
  portion = standard (k / due);
}
due-here due k here = cond-true (ltb k (4 * due)) _ _ (lt-ltb k (4 * due) here)

due-later : (due k : ℕ) → 4 * due ≤ k → due_first due k ≡ in_order_of_instalments standard k
due-later due k later = cond-false (ltb k (4 * due)) _ _ (le-ltb k (4 * due) later)

pub place-here : (due : ℕ) (c : Cell) → c.instalment ≤ due → due_first_place due c ≡ place_among standard c.portion *
    due + (c.instalment - 1)
place-here due c here = cond-true (leb c.instalment due) _ _ (le-leb c.instalment due here)

pub place-later : (due : ℕ) (c : Cell) → due < c.instalment → due_first_place due c ≡ place_by_instalment
    (place_among standard) c
place-later due c later = cond-false (leb c.instalment due) _ _ (lt-leb c.instalment due later)

-- the portion of a place among what is due
due-portion : (due k : ℕ) → k < 4 * due → k / due < 4
due-portion due k here = let some : 0 < due =
    omega (arith, here) in (div-lt_iff_lt-mul {k = due} {x = k} {y = 4} some).1 here

pub is_cell-due_first : (n due k : ℕ) → due ≤ n → k < 4 * n → IsCell n (due_first due k)
is_cell-due_first n due k few within =
    elim (cases_lt k (4 * due)) [
      | inl here ↦
          let small : k % due < due = omega arith in
          subst (IsCell n) (sym (due-here due k here)) (record { first = omega arith; last = omega (arith, small) })
      | inr later ↦ subst (IsCell n) (sym (due-later due k later)) (is_cell-by_instalment standard n k within)
    ]

pub back-due_first : (due k : ℕ) → due_first_place due (due_first due k) ≡ k
back-due_first due k =
    elim (cases_lt k (4 * due)) [
      | inl here ↦
          let small : k % due < due = omega arith in
          let portion : place_among standard (standard (k / due)) ≡ k / due =
          standard_places.there (k / due) (due-portion due k here) in
          let parts = div-add-mod' k due in
          ap (due_first_place due) (due-here due k here)
          ∙ place-here due (record { instalment = k % due + 1; portion = standard (k / due) }) (omega (arith, small))
          ∙ ap (λ x. x * due + (k % due + 1 - 1)) portion
          ∙ omega (arith, parts)
      | inr later ↦
          ap (due_first_place due) (due-later due k later)
          ∙ place-later due (in_order_of_instalments standard k) (omega (arith, later))
          ∙ back-by_instalment standard (place_among standard) k standard_places
    ]

place-small : (p : Portion) (due i : ℕ) → i < due → place_among standard p * due + i < 4 * due
place-small Penalty due i less = omega (arith, less)
place-small Fee due i less = omega (arith, less)
place-small Interest due i less = omega (arith, less)
place-small Principal due i less = omega (arith, less)

pub in_range-due_first : (n due : ℕ) (c : Cell) → due ≤ n → IsCell n c → due_first_place due c < 4 * n
in_range-due_first n due c few is =
    elim (cases_lt due c.instalment) [
      | inl later ↦
          let same = place-later due c later in
          let range = in_range-by_instalment standard (place_among standard) n c standard_places is in
          omega (arith, same, range)
      | inr here ↦
          let same = place-here due c here in
          let small = place-small c.portion due (c.instalment - 1) (omega (arith, is.first, here)) in
          omega (arith, same, small, few)
    ]

pub forth-due_first : (n due : ℕ) (c : Cell) → IsCell n c → due_first due (due_first_place due c) ≡ c
forth-due_first n due c is =
    let i : ℕ = c.instalment - 1 in
    let p : ℕ = place_among standard c.portion in
    let at : ℕ → Portion → Cell = λ x y. record { instalment = x; portion = y } in
    elim (cases_lt due c.instalment) [
      | inl later ↦
          let far : 4 * due ≤ place_by_instalment (place_among standard) c = omega (arith, later) in
          ap (due_first due) (place-later due c later)
          ∙ due-later due (place_by_instalment (place_among standard) c) far
          ∙ forth-by_instalment standard (place_among standard) n c standard_places is
      | inr here ↦
          let less : i < due = omega (arith, is.first, here) in
          let rest : (p * due + i) % due + 1 ≡ c.instalment = let low =
          mod-mul-add p due i less in omega (arith, low, is.first) in
          let quotient : (p * due + i) / due ≡ p = div-mul-add p due i less in
          ap (due_first due) (place-here due c here)
          ∙ due-here due (p * due + i) (place-small c.portion due i less)
          ∙ ap (λ x. at x (standard ((p * due + i) / due))) rest
          ∙ ap (λ x. at c.instalment (standard x)) quotient
          ∙ ap (λ y. at c.instalment y) (standard_places.back c.portion)
    ]

-- each name's order is lawful
pub is_cell-cell_by : (name : StrategyName) (n due k : ℕ) → due ≤ n → k < 4 * n → IsCell n (cell_by name due k)
is_cell-cell_by MifosStandard n due k few within = is_cell-by_instalment (portion_by MifosStandard) n k within
is_cell-cell_by PrincipalFirst n due k few within = is_cell-by_instalment (portion_by PrincipalFirst) n k within
is_cell-cell_by InterestFirst n due k few within = is_cell-by_instalment (portion_by InterestFirst) n k within
is_cell-cell_by DueFirst n due k few within = is_cell-due_first n due k few within

pub back-cell_by : (name : StrategyName) (due k : ℕ) → place_by name due (cell_by name due k) ≡ k
back-cell_by MifosStandard due k = back-by_instalment _ _ k (places_by MifosStandard)
back-cell_by PrincipalFirst due k = back-by_instalment _ _ k (places_by PrincipalFirst)
back-cell_by InterestFirst due k = back-by_instalment _ _ k (places_by InterestFirst)
back-cell_by DueFirst due k = back-due_first due k

pub in_range-place_by : (name : StrategyName) (n due : ℕ) (c : Cell) → due ≤ n → IsCell n c → place_by name due c
    < 4 * n
in_range-place_by MifosStandard n due c few is = in_range-by_instalment _ _ n c (places_by MifosStandard) is
in_range-place_by PrincipalFirst n due c few is = in_range-by_instalment _ _ n c (places_by PrincipalFirst) is
in_range-place_by InterestFirst n due c few is = in_range-by_instalment _ _ n c (places_by InterestFirst) is
in_range-place_by DueFirst n due c few is = in_range-due_first n due c few is

pub forth-place_by : (name : StrategyName) (n due : ℕ) (c : Cell) → IsCell n c → cell_by name due (place_by name due c)
    ≡ c
forth-place_by MifosStandard n due c is = forth-by_instalment _ _ n c (places_by MifosStandard) is
forth-place_by PrincipalFirst n due c is = forth-by_instalment _ _ n c (places_by PrincipalFirst) is
forth-place_by InterestFirst n due c is = forth-by_instalment _ _ n c (places_by InterestFirst) is
forth-place_by DueFirst n due c is = forth-due_first n due c is

-- an order of n instalments' cells in which each place has a cell of its own
pub record IsOrder (n : ℕ) (order : ℕ → Cell) (place : Cell → ℕ) : Type 0 where
  pub is_cell : (k : ℕ) → k < 4 * n → IsCell n (order k)
  pub back : (k : ℕ) → k < 4 * n → place (order k) ≡ k
