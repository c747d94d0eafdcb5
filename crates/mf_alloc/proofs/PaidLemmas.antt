-- What a payment leaves paid in each cell.
use Rattle.std.proofs.Common.{◌≡◌, ◌≢◌, ℕ, zero, suc, ◌+◌, ◌-◌, ◌*◌, ◌<◌, ◌≤◌, List, [], ◌∷◌, length, map, get_or, set}
use Rattle.std.proofs.Common.{inl, inr, arith, refl, ◌∙◌, ap, subst, sym}
use Rattle.std.specs.List.{range_with_len}
use Rattle.std.proofs.lemmas.Bool.{cases_eq}
use Rattle.std.proofs.lemmas.List.{get_or-set_same, get_or-set_other}
use Rattle.mf_alloc.specs.declared.row.Cell.{Cell}
use Rattle.mf_alloc.specs.declared.row.Share.{Share}
use Rattle.mf_alloc.specs.Sums.{Instalment, IsWhole, AreWhole}
use Rattle.mf_alloc.specs.Rows.{no_row, rows_changed_at, pay_row, pay_into, with_paid, place_in_row, IsCell}
use Rattle.mf_alloc.specs.Payment.{shares_of}
use Rattle.mf_alloc.specs.PaymentLaw.{paid_in_cell, but_paid, PaidByCells}
use Rattle.mf_alloc.proofs.PaymentLemmas.{same_cell, same_portion}
use Rattle.mf_alloc.proofs.TwoPayments.{share_in, shares_by}
use Rattle.mf_alloc.proofs.LeftOpen.{place_in_row-small, whole-at, IsLine, cell-at, line-pay_into, cells-apart}
use Rattle.mf_alloc.proofs.LeftOpen.{amounts_of, rows_paid-by}

paid-pay_into : (rows : List Instalment) (cell : Cell) (amount : ℕ) → IsCell (length rows) cell → AreWhole rows
    → paid_in_cell (pay_into rows (share_in cell amount)) cell ≡ paid_in_cell rows cell + amount
paid-pay_into rows cell amount there whole =
    let i : ℕ = cell.instalment - 1 in
    let p : ℕ = place_in_row cell.portion in
    let row : Instalment = get_or rows i no_row in
    let is : IsWhole row = whole-at rows cell.instalment whole there.first there.last in
    let small : p < 4 = place_in_row-small cell.portion in
    ap (λ (x : Instalment). get_or x.paid p 0) (get_or-set_same rows i (pay_row p amount row) no_row
    (omega (arith, there.first, there.last)))
    ∙ get_or-set_same row.paid p (get_or row.paid p 0 + amount) 0 (omega (arith, is.paid, small))

paid-other : (rows : List Instalment) (paying cell : Cell) (amount : ℕ) → IsCell (length rows) paying
    → IsCell (length rows)
    cell → cell ≢ paying → paid_in_cell (pay_into rows (share_in paying amount)) cell ≡ paid_in_cell rows cell
paid-other rows paying cell amount there here apart =
    let i : ℕ = paying.instalment - 1 in
    let j : ℕ = cell.instalment - 1 in
    let p : ℕ = place_in_row paying.portion in
    let q : ℕ = place_in_row cell.portion in
    let change : Instalment → Instalment = pay_row p amount in
    elim (cases_eq cell.instalment paying.instalment) [
      | inl same ↦
          let other : q ≢ p = λ e. apart (same_cell cell paying same (same_portion cell.portion paying.portion e)) in
          let at : j ≡ i = omega (arith, same) in
          let read : get_or (rows_changed_at rows paying.instalment change) j no_row ≡ change (get_or rows j no_row) =
          ap (λ x. get_or (rows_changed_at rows paying.instalment change) x no_row) at
          ∙ get_or-set_same rows i (change (get_or rows i no_row)) no_row (omega (arith, there.first, there.last))
          ∙ sym (ap (λ x. change (get_or rows x no_row)) at) in
          ap (λ (x : Instalment). get_or x.paid q 0) read
          ∙ get_or-set_other (get_or rows j no_row).paid p q (get_or (get_or rows j no_row).paid p 0 + amount) 0 other
      | inr differ ↦
          let other : j ≢ i = λ e. differ (omega (arith, there.first, here.first, e)) in
          ap (λ (x : Instalment). get_or x.paid q 0)
          (get_or-set_other rows i j (change (get_or rows i no_row)) no_row other)
    ]

paid-elsewhere : (n : ℕ) (order : ℕ → Cell) (place : Cell → ℕ) (rows : List Instalment) (j k amount : ℕ)
    → IsLine n order place rows → j < 4 * n → k < 4 * n → j ≢ k
    → paid_in_cell (pay_into rows (share_in (order j) amount)) (order k) ≡ paid_in_cell rows (order k)
paid-elsewhere n order place rows j k amount line below_j below_k apart =
    paid-other rows (order j) (order k) amount (cell-at n order place rows j line below_j)
    (cell-at n order place rows k line below_k)
    (cells-apart n order place j k line.is below_j below_k apart)

-- a place past those that are paid, and one among them
paid-untouched : (n : ℕ) (order : ℕ → Cell) (place : Cell → ℕ) (amounts : ℕ → ℕ) (rows : List Instalment) (j len k : ℕ)
    → IsLine n order place rows → j + len ≤ 4 * n → k < j
    → paid_in_cell (with_paid rows (shares_by order amounts (range_with_len j len))) (order k)
    ≡ paid_in_cell rows (order k)
paid-untouched n order place amounts rows j zero k line within before = refl
paid-untouched n order place amounts rows j (suc len) k line within before =
    paid-untouched n order place amounts (pay_into rows (share_in (order j) (amounts j)))
    (j + 1) len k (line-pay_into n order place rows j (amounts j) line (omega arith)) (omega arith) (omega arith)
    ∙ paid-elsewhere n order place rows j k (amounts j) line (omega arith) (omega arith) (omega arith)

paid-touched : (n : ℕ) (order : ℕ → Cell) (place : Cell → ℕ) (amounts : ℕ → ℕ) (rows : List Instalment) (j len k : ℕ)
    → IsLine n order place rows → j + len ≤ 4 * n → j ≤ k → k < j + len
    → paid_in_cell (with_paid rows (shares_by order amounts (range_with_len j len))) (order k)
    ≡ paid_in_cell rows (order k) + amounts k
paid-touched n order place amounts rows j zero k line within from to = absurd (omega arith)
paid-touched n order place amounts rows j (suc len) k line within from to =
    let paid : List Instalment = pay_into rows (share_in (order j) (amounts j)) in
    let next : IsLine n order place paid = line-pay_into n order place rows j (amounts j) line (omega arith) in
    elim (cases_eq j k) [
      | inl here ↦
          subst (λ (x : ℕ). paid_in_cell (with_paid paid (shares_by order amounts (range_with_len (j + 1) len)))
          (order x) ≡ paid_in_cell rows (order x) + amounts x) here
          (paid-untouched n order place amounts paid (j + 1) len j next (omega arith) (omega arith)
          ∙ paid-pay_into rows (order j) (amounts j) (cell-at n order place rows j line (omega arith)) line.whole)
      | inr apart ↦
          paid-touched n order place amounts paid (j + 1) len k next (omega arith) (omega arith) (omega arith)
          ∙ ap (λ x. x + amounts k) (paid-elsewhere n order place rows j k (amounts j) line (omega arith)
          (omega arith) apart)
    ]

-- nothing else changes
but_paid-set : (rows : List Instalment) (i p amount : ℕ)
    → map but_paid (set rows i (pay_row p amount (get_or rows i no_row)))
    ≡ map but_paid rows
but_paid-set [] zero p amount = refl
but_paid-set [] (suc i) p amount = refl
but_paid-set (row ∷ rows) zero p amount = refl
but_paid-set (row ∷ rows) (suc i) p amount = ap (λ x. but_paid row ∷ x) (but_paid-set rows i p amount)

but_paid-with_paid : (rows : List Instalment) (shares : List Share) → map but_paid (with_paid rows shares)
    ≡ map but_paid rows
but_paid-with_paid rows [] = refl
but_paid-with_paid rows (share ∷ shares) =
    but_paid-with_paid (pay_into rows share) shares ∙ but_paid-set rows (share.cell.instalment - 1)
    (place_in_row share.cell.portion) share.amount

pub paid-by_cells : PaidByCells
paid-by_cells order place rows amount is whole =
    let line : IsLine (length rows) order place rows = record { size = refl; is = is; whole = whole } in
    record {
      paid = λ k within.
          ap (λ (x : List Instalment). paid_in_cell x (order k)) (rows_paid-by order rows amount)
          ∙ paid-touched (length rows) order place (amounts_of order rows amount) rows 0 (4 * length rows) k line
          (omega arith) (omega arith) (omega (arith, within));
      others = but_paid-with_paid rows (shares_of order rows amount);
    }
