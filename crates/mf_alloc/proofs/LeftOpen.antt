-- What a payment leaves outstanding, cell by cell, and what a second payment then finds.
use Rattle.std.proofs.Common.{◌≡◌, ◌≢◌, ℕ, zero, suc, ◌+◌, ◌-◌, ◌*◌, ◌<◌, ◌≤◌, min, List, [], ◌∷◌, length, map, get_or}
use Rattle.std.proofs.Common.{set, inl, inr, arith, refl, ◌∙◌, ap, subst, sym, add-one}
use Rattle.std.specs.Prelude.{All}
use Rattle.std.specs.List.{range_with_len}
use Rattle.std.proofs.lemmas.Bool.{cases_eq}
use Rattle.std.proofs.lemmas.List.{get_or-set_same, length-set}
use Rattle.std.proofs.lemmas.List.Elements.{All-set, All-nil, All-cons}
use Rattle.mf_alloc.specs.declared.row.Cell.{Cell}
use Rattle.mf_alloc.specs.declared.row.Portion.{Portion}
use Rattle.mf_alloc.specs.declared.row.Portion.TheVariants.{Penalty, Fee, Interest, Principal}
use Rattle.mf_alloc.specs.declared.row.Share.{Share}
use Rattle.mf_alloc.specs.Sums.{Instalment, open_at, IsWhole, AreWhole}
use Rattle.mf_alloc.specs.Rows.{outstanding, no_row, row_at, pay_row, pay_into, with_paid, place_in_row, IsCell}
use Rattle.mf_alloc.specs.Rows.{IsPayable}
use Rattle.mf_alloc.specs.Payment.{start, share_at, shares_of, rest_of}
use Rattle.mf_alloc.specs.OrderLaws.{IsOrder}
use Rattle.mf_alloc.proofs.PaymentLemmas.{outstanding-pay_into, start-more}
use Rattle.mf_alloc.proofs.TwoPayments.{share_in, shares_by, with_paid-some}

pub place_in_row-small : (portion : Portion) → place_in_row portion < 4
place_in_row-small Penalty = omega arith
place_in_row-small Fee = omega arith
place_in_row-small Interest = omega arith
place_in_row-small Principal = omega arith

-- the row of a cell is one of the rows
pub whole-at : (rows : List Instalment) (i : ℕ) → AreWhole rows → 1 ≤ i → i ≤ length rows → IsWhole (row_at rows i)
whole-at rows i whole first last = whole (i - 1) no_row (omega arith)

-- paying keeps four sums
whole-pay_row : (p amount : ℕ) (row : Instalment) → IsWhole row → IsWhole (pay_row p amount row)
whole-pay_row p amount row is = record {
  owed = is.owed;
  paid = length-set row.paid p (get_or row.paid p 0 + amount) ∙ is.paid;
  waived = is.waived;
  written_off = is.written_off;
}

pub length-pay_into : (rows : List Instalment) (share : Share) → length (pay_into rows share) ≡ length rows
length-pay_into rows share =
    length-set rows (share.cell.instalment - 1) (pay_row (place_in_row share.cell.portion) share.amount
    (row_at rows share.cell.instalment))

pub whole-pay_into : (rows : List Instalment) (share : Share) → IsCell (length rows) share.cell → AreWhole rows
    → AreWhole (pay_into rows share)
whole-pay_into rows share there whole =
    All-set IsWhole rows (share.cell.instalment - 1) (pay_row (place_in_row share.cell.portion) share.amount
    (row_at rows share.cell.instalment))
    (whole-pay_row (place_in_row share.cell.portion) share.amount (row_at rows share.cell.instalment)
    (whole-at rows share.cell.instalment whole there.first there.last)) whole

-- what is paid into a cell is outstanding there no more
open_at-pay_row : (row : Instalment) (p amount : ℕ) → p < length row.paid → open_at (pay_row p amount row) p
    ≡ open_at row p - amount
open_at-pay_row row p amount within =
    let read : get_or (set row.paid p (get_or row.paid p 0 + amount)) p 0 ≡ get_or row.paid p 0 + amount =
    get_or-set_same row.paid p (get_or row.paid p 0 + amount) 0 within in
    ap (λ x. get_or row.owed p 0 - x - get_or row.waived p 0 - get_or row.written_off p 0) read ∙ omega arith

outstanding-paid : (rows : List Instalment) (cell : Cell) (amount : ℕ) → IsCell (length rows) cell → AreWhole rows
    → outstanding (pay_into rows (share_in cell amount)) cell ≡ outstanding rows cell - amount
outstanding-paid rows cell amount there whole =
    let i : ℕ = cell.instalment - 1 in
    let p : ℕ = place_in_row cell.portion in
    let row : Instalment = get_or rows i no_row in
    let is : IsWhole row = whole-at rows cell.instalment whole there.first there.last in
    let small : p < 4 = place_in_row-small cell.portion in
    ap (λ x. open_at x p) (get_or-set_same rows i (pay_row p amount row) no_row (omega (
      arith,
      there.first,
      there.last,
    )))
    ∙ open_at-pay_row row p amount (omega (arith, is.paid, small))

-- n rows, and an order of their cells
pub record IsLine (n : ℕ) (order : ℕ → Cell) (place : Cell → ℕ) (rows : List Instalment) : Type 0 where
  pub size : length rows ≡ n
  pub is : IsOrder n order place
  pub whole : AreWhole rows

pub cell-at : (n : ℕ) (order : ℕ → Cell) (place : Cell → ℕ) (rows : List Instalment) (k : ℕ) → IsLine n order place rows
    → k < 4 * n → IsCell (length rows) (order k)
cell-at n order place rows k line within =
    subst (λ (x : ℕ). IsCell x (order k)) (sym line.size) (line.is.is_cell k within)

pub line-pay_into : (n : ℕ) (order : ℕ → Cell) (place : Cell → ℕ) (rows : List Instalment) (k amount : ℕ)
    → IsLine n order place rows → k < 4 * n → IsLine n order place (pay_into rows (share_in (order k) amount))
line-pay_into n order place rows k amount line within = record {
  size = length-pay_into rows (share_in (order k) amount) ∙ line.size;
  is = line.is;
  whole = whole-pay_into rows (share_in (order k) amount) (cell-at n order place rows k line within) line.whole;
}

-- places apart are cells apart
pub cells-apart : (n : ℕ) (order : ℕ → Cell) (place : Cell → ℕ) (j k : ℕ) → IsOrder n order place → j < 4 * n
    → k < 4 * n → j ≢ k → order k ≢ order j
cells-apart n order place j k is below_j below_k apart e =
    let at_j : place (order j) ≡ j = is.back j below_j in
    let at_k : place (order k) ≡ k = is.back k below_k in
    let same : place (order k) ≡ place (order j) = ap place e in
    apart (omega (arith, at_j, at_k, same))

outstanding-elsewhere : (n : ℕ) (order : ℕ → Cell) (place : Cell → ℕ) (rows : List Instalment) (j k amount : ℕ)
    → IsLine n order place rows → j < 4 * n → k < 4 * n → j ≢ k
    → outstanding (pay_into rows (share_in (order j) amount)) (order k) ≡ outstanding rows (order k)
outstanding-elsewhere n order place rows j k amount line below_j below_k apart =
    outstanding-pay_into rows (share_in (order j) amount) (order k) (cell-at n order place rows j line below_j)
    (cell-at n order place rows k line below_k)
    (cells-apart n order place j k line.is below_j below_k apart)

-- a place past those that are paid
outstanding-untouched : (n : ℕ) (order : ℕ → Cell) (place : Cell → ℕ) (amounts : ℕ → ℕ) (rows : List Instalment)
    (j len k : ℕ)
    → IsLine n order place rows → j + len ≤ 4 * n → k < j
    → outstanding (with_paid rows (shares_by order amounts (range_with_len j len))) (order k)
    ≡ outstanding rows (order k)
outstanding-untouched n order place amounts rows j zero k line within before = refl
outstanding-untouched n order place amounts rows j (suc len) k line within before =
    outstanding-untouched n order place amounts (pay_into rows (share_in (order j) (amounts j)))
    (j + 1) len k (line-pay_into n order place rows j (amounts j) line (omega arith)) (omega arith) (omega arith)
    ∙ outstanding-elsewhere n order place rows j k (amounts j) line (omega arith) (omega arith) (omega arith)

-- a place among those that are paid
outstanding-touched : (n : ℕ) (order : ℕ → Cell) (place : Cell → ℕ) (amounts : ℕ → ℕ) (rows : List Instalment)
    (j len k : ℕ)
    → IsLine n order place rows → j + len ≤ 4 * n → j ≤ k → k < j + len
    → outstanding (with_paid rows (shares_by order amounts (range_with_len j len))) (order k)
    ≡ outstanding rows (order k) - amounts k
outstanding-touched n order place amounts rows j zero k line within from to = absurd (omega arith)
outstanding-touched n order place amounts rows j (suc len) k line within from to =
    let paid : List Instalment = pay_into rows (share_in (order j) (amounts j)) in
    let next : IsLine n order place paid = line-pay_into n order place rows j (amounts j) line (omega arith) in
    elim (cases_eq j k) [
      | inl here ↦
          subst (λ (x : ℕ). outstanding (with_paid paid (shares_by order amounts (range_with_len (j + 1) len)))
          (order x) ≡ outstanding rows (order x) - amounts x) here
          (outstanding-untouched n order place amounts paid (j + 1) len j next (omega arith) (omega arith)
          ∙ outstanding-paid rows (order j) (amounts j) (cell-at n order place rows j line (omega arith)) line.whole)
      | inr apart ↦
          outstanding-touched n order place amounts paid (j + 1) len k next (omega arith) (omega arith) (omega arith)
          ∙ ap (λ x. x - amounts k) (outstanding-elsewhere n order place rows j k (amounts j) line (omega arith)
          (omega arith) apart)
    ]

-- what the shares of an amount are
abbrev pub amounts_of : (ℕ → Cell) → List Instalment → ℕ → ℕ → ℕ
amounts_of order rows amount k = (share_at order rows amount k).amount

abbrev pub rows_paid : (ℕ → Cell) → List Instalment → ℕ → List Instalment
rows_paid order rows amount = with_paid rows (shares_of order rows amount)

pub rows_paid-by : (order : ℕ → Cell) (rows : List Instalment) (amount : ℕ) → rows_paid order rows amount
    ≡ with_paid rows (shares_by order (amounts_of order rows amount) (range_with_len 0 (4 * length rows)))
rows_paid-by order rows amount =
    with_paid-some rows (map (share_at order rows amount) (range_with_len 0 (4 * length rows)))

-- what a payment leaves outstanding in a cell
pub outstanding-rows_paid : (n : ℕ) (order : ℕ → Cell) (place : Cell → ℕ) (rows : List Instalment) (amount k : ℕ)
    → IsLine n order place rows → k < 4 * n → outstanding (rows_paid order rows amount) (order k)
    ≡ outstanding rows (order k) - amounts_of order rows amount k
outstanding-rows_paid n order place rows amount k line within =
    ap (λ x. outstanding x (order k)) (rows_paid-by order rows amount)
    ∙ outstanding-touched n order place (amounts_of order rows amount) rows 0 (4 * length rows) k line
    (omega (arith, line.size)) (omega arith) (omega (arith, line.size))

-- where the stretch of place k begins once an amount is paid
pub start-rows_paid : (n : ℕ) (order : ℕ → Cell) (place : Cell → ℕ) (rows : List Instalment) (amount k : ℕ)
    → IsLine n order place rows → k ≤ 4 * n → start order (rows_paid order rows amount) k ≡ start order rows k - min
    amount (start order rows k)
start-rows_paid n order place rows amount zero line within = omega arith
start-rows_paid n order place rows amount (suc k) line within =
    let paid : List Instalment = rows_paid order rows amount in
    let before : start order paid k ≡ start order rows k - min amount (start order rows k) =
    start-rows_paid n order place rows amount k line (omega arith) in
    let here : outstanding paid (order k) ≡ outstanding rows (order k) - min (outstanding rows (order k))
    (amount - start order rows k) = outstanding-rows_paid n order place rows amount k line (omega arith) in
    let more_paid : start order paid (k + 1) ≡ start order paid k + outstanding paid (order k) =
    start-more order paid k in
    let more : start order rows (k + 1) ≡ start order rows k + outstanding rows (order k) = start-more order rows k in
    subst (λ (x : ℕ). start order paid x ≡ start order rows x - min amount (start order rows x)) (add-one k)
    (omega (arith, before, here, more_paid, more))

-- the stretch of a place lies on the line
pub start-within : (order : ℕ → Cell) (rows : List Instalment) (k m : ℕ) → k < m → start order rows k
    + outstanding rows (order k) ≤ start order rows m
start-within order rows k zero below = absurd (omega arith)
start-within order rows k (suc m) below =
    let more : start order rows (m + 1) ≡ start order rows m + outstanding rows (order m) = start-more order rows m in
    subst (λ (x : ℕ). start order rows k + outstanding rows (order k) ≤ start order rows x) (add-one m)
    (elim (cases_eq k m) [
      | inl last ↦ subst (λ (x : ℕ). start order rows x + outstanding rows (order x) ≤ start order rows (m + 1))
          (sym last) (omega (arith, more))
      | inr earlier ↦ let before = start-within order rows k m (omega arith) in omega (arith, before, more)
    ])

-- where something is left of a payment, nothing is outstanding
pub outstanding-none : (n : ℕ) (order : ℕ → Cell) (place : Cell → ℕ) (rows : List Instalment) (amount k : ℕ)
    → IsLine n order place rows → k < 4 * n → 0 < rest_of order rows amount → outstanding (rows_paid order rows amount)
    (order k) ≡ 0
outstanding-none n order place rows amount k line within left =
    let on_line = start-within order rows k (4 * length rows) (omega (arith, line.size)) in
    let here = outstanding-rows_paid n order place rows amount k line within in
    omega (arith, on_line, here, left)

length-with_paid : (rows : List Instalment) (shares : List Share) → length (with_paid rows shares) ≡ length rows
length-with_paid rows [] = refl
length-with_paid rows (share ∷ shares) = length-with_paid (pay_into rows share) shares ∙ length-pay_into rows share

pub length-rows_paid : (order : ℕ → Cell) (rows : List Instalment) (amount : ℕ) → length (rows_paid order rows amount)
    ≡ length rows
length-rows_paid order rows amount = length-with_paid rows (shares_of order rows amount)

pub shares_by-same : (order : ℕ → Cell) (f g : ℕ → ℕ) (j len : ℕ) → ((k : ℕ) → j ≤ k → k < j + len → f k ≡ g k)
    → shares_by order f (range_with_len j len) ≡ shares_by order g (range_with_len j len)
shares_by-same order f g j zero same = refl
shares_by-same order f g j (suc len) same =
    ap (λ a. share_in (order j) a ∷ shares_by order f (range_with_len (j + 1) len)) (same j (omega arith) (omega arith))
    ∙ ap (λ x. share_in (order j) (g j) ∷ x) (shares_by-same order f g (j + 1) len (λ k from to. same k (omega arith)
    (omega arith)))

-- an amount is paid, then what was overpaid with the rest: cell by cell that is their sum, paid at once
pub amounts-twice : (n : ℕ) (order : ℕ → Cell) (place : Cell → ℕ) (rows : List Instalment) (amount overpaid k : ℕ)
    → IsLine n order place rows → k < 4 * n → amounts_of order rows amount k + amounts_of order (rows_paid order rows
    amount) (overpaid + rest_of order rows amount) k ≡ amounts_of order rows (amount + overpaid) k
amounts-twice n order place rows amount overpaid k line within =
    let begins = start-rows_paid n order place rows amount k line (omega arith) in
    let left = outstanding-rows_paid n order place rows amount k line within in
    let on_line = start-within order rows k (4 * length rows) (omega (arith, line.size)) in
    omega (arith, begins, left, on_line)

pub rest-twice : (n : ℕ) (order : ℕ → Cell) (place : Cell → ℕ) (rows : List Instalment) (amount overpaid : ℕ)
    → IsLine n order place rows → rest_of order (rows_paid order rows amount) (overpaid + rest_of order rows amount)
    ≡ rest_of order rows (amount + overpaid)
rest-twice n order place rows amount overpaid line =
    let size : length (rows_paid order rows amount) ≡ length rows = length-rows_paid order rows amount in
    let end = start-rows_paid n order place rows amount (4 * length rows) line (omega (arith, line.size)) in
    ap (λ x. overpaid + rest_of order rows amount - start order (rows_paid order rows amount) (4 * x)) size
    ∙ omega (arith, end)

-- shares that can be paid are of cells that are there
pub payable-cells : (rows : List Instalment) (shares : List Share) → IsPayable rows shares
    → All (λ (s : Share). IsCell (length rows) s.cell) shares
payable-cells rows [] fits = All-nil (λ (s : Share). IsCell (length rows) s.cell)
payable-cells rows (share ∷ shares) fits =
    All-cons (λ (s : Share). IsCell (length rows) s.cell) share shares fits.0
    (subst (λ (n : ℕ). All (λ (s : Share). IsCell n s.cell) shares) (length-pay_into rows share)
    (payable-cells (pay_into rows share) shares fits.2))
