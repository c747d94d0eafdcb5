-- What clearing leaves in each cell.
use Rattle.std.proofs.Common.{◌≡◌, ◌≢◌, ℕ, zero, suc, ◌+◌, ◌-◌, ◌*◌, ◌<◌, ◌≤◌, ltb, List, [], ◌∷◌, length, map, get_or}
use Rattle.std.proofs.Common.{set, inl, inr, arith, refl, ◌∙◌, ap, subst, sym}
use Rattle.std.specs.Prelude.{filter}
use Rattle.std.specs.List.{range_with_len}
use Rattle.std.proofs.lemmas.Bool.{cases_eq, cond_both, ltb-false}
use Rattle.std.proofs.lemmas.List.{length-set, get_or-set_same, get_or-set_other}
use Rattle.mf_alloc.specs.declared.row.Cell.{Cell}
use Rattle.mf_alloc.specs.Sums.{Instalment, open_at, IsWhole, AreWhole}
use Rattle.mf_alloc.specs.Rows.{no_row, row_at, rows_changed_at, place_in_row, IsCell, outstanding}
use Rattle.mf_alloc.proofs.PaymentLemmas.{same_cell, same_portion}
use Rattle.mf_alloc.proofs.LeftOpen.{place_in_row-small, whole-at, IsLine, cell-at, cells-apart}
use Rattle.mf_account.specs.declared.settled.How.{How}
use Rattle.mf_account.specs.declared.settled.How.TheVariants.{Paid, Waived, WrittenOff}
use Rattle.mf_account.specs.Effect.{Part, settle, settle_row, with_settled, is_some_part}
use Rattle.mf_account.specs.ClearingLaw.{but_written_off, but_waived, IsCellWaived, cell_of, WritesOffByCells}
use Rattle.mf_account.specs.ClearingLaw.{WaivesOneCell}
use Rattle.mf_account.proofs.EffectLemmas.{outstanding-settle}
use Rattle.mf_account.proofs.GoodLemmas.{whole-with_settled}

abbrev part_in : How → Cell → ℕ → Part
part_in how cell amount = record { cell = cell; how = how; amount = amount }

-- the sum that a part raises
abbrev sum_of : How → Instalment → List ℕ
sum_of Paid row = row.paid
sum_of Waived row = row.waived
sum_of WrittenOff row = row.written_off

abbrev in_cell : How → List Instalment → Cell → ℕ
in_cell how rows cell = get_or (sum_of how (row_at rows cell.instalment)) (place_in_row cell.portion) 0

sum-settle_row : (how : How) (p amount : ℕ) (row : Instalment) → sum_of how (settle_row how p amount row)
    ≡ set (sum_of how row) p (get_or (sum_of how row) p 0 + amount)
sum-settle_row Paid p amount row = refl
sum-settle_row Waived p amount row = refl
sum-settle_row WrittenOff p amount row = refl

length-sum : (how : How) (row : Instalment) → IsWhole row → length (sum_of how row) ≡ 4
length-sum Paid row is = is.paid
length-sum Waived row is = is.waived
length-sum WrittenOff row is = is.written_off

in-here : (how : How) (rows : List Instalment) (cell : Cell) (amount : ℕ) → IsCell (length rows) cell → AreWhole rows
    → in_cell how (settle rows (part_in how cell amount)) cell ≡ in_cell how rows cell + amount
in-here how rows cell amount there whole =
    let i : ℕ = cell.instalment - 1 in
    let p : ℕ = place_in_row cell.portion in
    let row : Instalment = get_or rows i no_row in
    let size = length-sum how row (whole-at rows cell.instalment whole there.first there.last) in
    let small : p < 4 = place_in_row-small cell.portion in
    ap (λ (x : Instalment). get_or (sum_of how x) p 0) (get_or-set_same rows i (settle_row how p amount row) no_row
    (omega (arith, there.first, there.last)))
    ∙ ap (λ (s : List ℕ). get_or s p 0) (sum-settle_row how p amount row)
    ∙ get_or-set_same (sum_of how row) p (get_or (sum_of how row) p 0 + amount) 0 (omega (arith, size, small))

in-other : (how : How) (rows : List Instalment) (clearing cell : Cell) (amount : ℕ) → IsCell (length rows) clearing
    → IsCell (length rows) cell → cell ≢ clearing → in_cell how (settle rows (part_in how clearing amount)) cell
    ≡ in_cell how rows cell
in-other how rows clearing cell amount there here apart =
    let i : ℕ = clearing.instalment - 1 in
    let j : ℕ = cell.instalment - 1 in
    let p : ℕ = place_in_row clearing.portion in
    let q : ℕ = place_in_row cell.portion in
    let change : Instalment → Instalment = settle_row how p amount in
    elim (cases_eq cell.instalment clearing.instalment) [
      | inl same ↦
          let other : q ≢ p =
          λ e. apart (same_cell cell clearing same (same_portion cell.portion clearing.portion e)) in
          let at : j ≡ i = omega (arith, same) in
          let row : Instalment = get_or rows j no_row in
          let read : get_or (rows_changed_at rows clearing.instalment change) j no_row ≡ change row =
          ap (λ x. get_or (rows_changed_at rows clearing.instalment change) x no_row) at
          ∙ get_or-set_same rows i (change (get_or rows i no_row)) no_row (omega (arith, there.first, there.last))
          ∙ sym (ap (λ x. change (get_or rows x no_row)) at) in
          ap (λ (x : Instalment). get_or (sum_of how x) q 0) read
          ∙ ap (λ (s : List ℕ). get_or s q 0) (sum-settle_row how p amount row)
          ∙ get_or-set_other (sum_of how row) p q (get_or (sum_of how row) p 0 + amount) 0 other
      | inr differ ↦
          let other : j ≢ i = λ e. differ (omega (arith, there.first, here.first, e)) in
          ap (λ (x : Instalment). get_or (sum_of how x) q 0)
          (get_or-set_other rows i j (change (get_or rows i no_row)) no_row
          other)
    ]

-- what is settled in a cell is outstanding there no more
open_at-here : (how : How) (row : Instalment) (p amount : ℕ) → p < length (sum_of how row)
    → open_at (settle_row how p amount row) p ≡ open_at row p - amount
open_at-here Paid row p amount within =
    ap (λ x. get_or row.owed p 0 - x - get_or row.waived p 0 - get_or row.written_off p 0)
    (get_or-set_same row.paid p (get_or row.paid p 0 + amount) 0 within) ∙ omega arith
open_at-here Waived row p amount within =
    ap (λ x. get_or row.owed p 0 - get_or row.paid p 0 - x - get_or row.written_off p 0)
    (get_or-set_same row.waived p (get_or row.waived p 0 + amount) 0 within) ∙ omega arith
open_at-here WrittenOff row p amount within =
    ap (λ x. get_or row.owed p 0 - get_or row.paid p 0 - get_or row.waived p 0 - x)
    (get_or-set_same row.written_off p (get_or row.written_off p 0 + amount) 0 within) ∙ omega arith

outstanding-here : (how : How) (rows : List Instalment) (cell : Cell) (amount : ℕ) → IsCell (length rows) cell
    → AreWhole rows
    → outstanding (settle rows (part_in how cell amount)) cell ≡ outstanding rows cell - amount
outstanding-here how rows cell amount there whole =
    let i : ℕ = cell.instalment - 1 in
    let p : ℕ = place_in_row cell.portion in
    let row : Instalment = get_or rows i no_row in
    let size = length-sum how row (whole-at rows cell.instalment whole there.first there.last) in
    let small : p < 4 = place_in_row-small cell.portion in
    ap (λ x. open_at x p) (get_or-set_same rows i (settle_row how p amount row) no_row (omega (
      arith,
      there.first,
      there.last,
    )))
    ∙ open_at-here how row p amount (omega (arith, size, small))

-- a number of each cell, and what a part makes of it in its cell
record IsRead (how : How) (of : List Instalment → Cell → ℕ) (then : ℕ → ℕ → ℕ) : Type 0 where
  here : (rows : List Instalment) (cell : Cell) (amount : ℕ) → IsCell (length rows) cell → AreWhole rows
      → of (settle rows (part_in how cell amount)) cell ≡ then (of rows cell) amount
  other : (rows : List Instalment) (clearing cell : Cell) (amount : ℕ) → IsCell (length rows) clearing
      → IsCell (length rows) cell → cell ≢ clearing → of (settle rows (part_in how clearing amount)) cell ≡ of rows cell
  none : (x : ℕ) → then x 0 ≡ x

sums-read : (how : How) → IsRead how (in_cell how) (λ x amount. x + amount)
sums-read how = record { here = in-here how; other = in-other how; none = λ x. omega arith }

open-read : (how : How) → IsRead how outstanding (λ x amount. x - amount)
open-read how = record {
  here = outstanding-here how;
  other = λ rows clearing cell amount. outstanding-settle rows (part_in how clearing amount) cell;
  none = λ x. omega arith;
}

line-settle : (how : How) (n : ℕ) (order : ℕ → Cell) (place : Cell → ℕ) (rows : List Instalment) (j amount : ℕ)
    → IsLine n order place rows → IsLine n order place (settle rows (part_in how (order j) amount))
line-settle how n order place rows j amount line = record {
  size = length-set rows ((order j).instalment - 1) (settle_row how (place_in_row (order j).portion) amount
      (row_at rows (order j).instalment)) ∙ line.size;
  is = line.is;
  whole = whole-with_settled rows (part_in how (order j) amount ∷ []) line.whole;
}

-- the parts of places j to j + len - 1, empty ones left out
abbrev parts_from : How → (ℕ → Cell) → (ℕ → ℕ) → ℕ → ℕ → List Part
parts_from how order amounts j len =
    filter is_some_part (map (λ k. part_in how (order k) (amounts k)) (range_with_len j len))

read-untouched : (how : How) (of : List Instalment → Cell → ℕ) (then : ℕ → ℕ → ℕ) (n : ℕ) (order : ℕ → Cell)
    (place : Cell
    → ℕ) (amounts : ℕ → ℕ) (rows : List Instalment) (j len k : ℕ) → IsRead how of then → IsLine n order place rows
    → j + len
    ≤ 4 * n → k < j → of (with_settled rows (parts_from how order amounts j len)) (order k) ≡ of rows (order k)
read-untouched how of then n order place amounts rows j zero k read line within before = refl
read-untouched how of then n order place amounts rows j (suc len) k read line within before =
    let rest : List Part = parts_from how order amounts (j + 1) len in
    cond_both (ltb 0 (amounts j)) (part_in how (order j) (amounts j) ∷ rest) rest (λ parts. of (with_settled rows parts)
    (order k) ≡ of rows (order k))
    (λ _.
    read-untouched how of then n order place amounts (settle rows (part_in how (order j) (amounts j))) (j + 1) len k
    read (line-settle how n order place rows j (amounts j) line) (omega (arith, within)) (omega (arith, before))
    ∙ read.other rows (order j) (order k) (amounts j) (cell-at n order place rows j line (omega (arith, within)))
    (cell-at n order place rows k line (omega (arith, within, before)))
    (cells-apart n order place j k line.is (omega (arith, within)) (omega (arith, within, before))
    (omega (arith, before))))
    (λ _. read-untouched how of then n order place amounts rows (j + 1) len k read line (omega (arith, within))
    (omega (arith, before)))

read-touched : (how : How) (of : List Instalment → Cell → ℕ) (then : ℕ → ℕ → ℕ) (n : ℕ) (order : ℕ → Cell)
    (place : Cell → ℕ)
    (amounts : ℕ → ℕ) (rows : List Instalment) (j len k : ℕ) → IsRead how of then → IsLine n order place rows
    → j + len ≤ 4 * n → j ≤ k → k < j + len → of (with_settled rows (parts_from how order amounts j len)) (order k) ≡
    then (of rows (order k)) (amounts k)
read-touched how of then n order place amounts rows j zero k read line within from to = absurd (omega (arith, from, to))
read-touched how of then n order place amounts rows j (suc len) k read line within from to =
    let rest : List Part = parts_from how order amounts (j + 1) len in
    let paid : List Instalment = settle rows (part_in how (order j) (amounts j)) in
    let next : IsLine n order place paid = line-settle how n order place rows j (amounts j) line in
    let below : j < 4 * n = omega (arith, within) in
    let last : k < 4 * n = omega (arith, within, to) in
    cond_both (ltb 0 (amounts j)) (part_in how (order j) (amounts j) ∷ rest) rest (λ parts. of (with_settled rows parts)
    (order k) ≡ then (of rows (order k)) (amounts k))
    (λ _.
    elim (cases_eq j k) [
      | inl here ↦
          subst (λ (x : ℕ). of (with_settled paid rest) (order x) ≡ then (of rows (order x)) (amounts x)) here
          (read-untouched how of then n order place amounts paid (j + 1) len j read next (omega (arith, within))
          (omega arith)
          ∙ read.here rows (order j) (amounts j) (cell-at n order place rows j line below) line.whole)
      | inr apart ↦
          read-touched how of then n order place amounts paid (j + 1) len k read next (omega (arith, within))
          (omega (arith, from, apart)) (omega (arith, to))
          ∙ ap (λ x. then x (amounts k)) (read.other rows (order j) (order k) (amounts j)
          (cell-at n order place rows j line below) (cell-at n order place rows k line last)
          (cells-apart n order place j k line.is below last apart))
    ])
    (λ nothing_there.
    elim (cases_eq j k) [
      | inl here ↦
          let low = ltb-false 0 (amounts j) nothing_there in
          let empty : amounts k ≡ 0 = ap amounts (sym here) ∙ omega (arith, low) in
          read-untouched how of then n order place amounts rows (j + 1) len k read line (omega (arith, within))
          (omega (arith, here))
          ∙ sym (read.none (of rows (order k))) ∙ ap (λ x. then (of rows (order k)) x) (sym empty)
      | inr apart ↦ read-touched how of then n order place amounts rows (j + 1) len k read line (omega (arith, within))
          (omega (arith, from, apart)) (omega (arith, to))
    ])

-- nothing else changes
but_written_off-set : (rows : List Instalment) (i p amount : ℕ) → map but_written_off
    (set rows i (settle_row WrittenOff p amount (get_or rows i no_row))) ≡ map but_written_off rows
but_written_off-set [] zero p amount = refl
but_written_off-set [] (suc i) p amount = refl
but_written_off-set (row ∷ rows) zero p amount = refl
but_written_off-set (row ∷ rows) (suc i) p amount =
    ap (λ x. but_written_off row ∷ x) (but_written_off-set rows i p amount)

but_waived-set : (rows : List Instalment) (i p amount : ℕ)
    → map but_waived (set rows i (settle_row Waived p amount (get_or rows i no_row))) ≡ map but_waived rows
but_waived-set [] zero p amount = refl
but_waived-set [] (suc i) p amount = refl
but_waived-set (row ∷ rows) zero p amount = refl
but_waived-set (row ∷ rows) (suc i) p amount = ap (λ x. but_waived row ∷ x) (but_waived-set rows i p amount)

but_written_off-settled : (order : ℕ → Cell) (amounts : ℕ → ℕ) (rows : List Instalment) (j len : ℕ)
    → map but_written_off (with_settled rows (parts_from WrittenOff order amounts j len)) ≡ map but_written_off rows
but_written_off-settled order amounts rows j zero = refl
but_written_off-settled order amounts rows j (suc len) =
    let rest : List Part = parts_from WrittenOff order amounts (j + 1) len in
    let part : Part = part_in WrittenOff (order j) (amounts j) in
    cond_both (ltb 0 (amounts j)) (part ∷ rest) rest (λ parts. map but_written_off (with_settled rows parts)
    ≡ map but_written_off rows)
    (λ _. but_written_off-settled order amounts (settle rows part) (j + 1) len
    ∙ but_written_off-set rows ((order j).instalment - 1) (place_in_row (order j).portion) (amounts j))
    (λ _. but_written_off-settled order amounts rows (j + 1) len)

pub writes-off_by_cells : WritesOffByCells
writes-off_by_cells order place entry rows is whole =
    let line : IsLine (length rows) order place rows = record { size = refl; is = is; whole = whole } in
    let amounts : ℕ → ℕ = λ k. outstanding rows (order k) in
    record {
      written_off = λ k within. read-touched WrittenOff (in_cell WrittenOff) (λ x amount. x + amount)
          (length rows) order place amounts rows 0 (4 * length rows) k (sums-read WrittenOff) line (omega arith)
          (omega arith) (omega (arith, within));
      none_left = λ k within.
          let all = read-touched WrittenOff outstanding (λ x amount. x - amount) (length rows) order place amounts rows
          0 (4 * length rows) k (open-read WrittenOff) line (omega arith) (omega arith) (omega (arith, within)) in
          all ∙ omega arith;
      others = but_written_off-settled order amounts rows 0 (4 * length rows);
    }

pub waives-one_cell : WaivesOneCell
waives-one_cell order entry rows there whole =
    let cell : Cell = cell_of entry in
    let amount : ℕ = outstanding rows cell in
    let part : Part = part_in Waived cell amount in
    cond_both (ltb 0 amount) (part ∷ []) [] (λ parts. IsCellWaived cell rows (with_settled rows parts))
    (λ _. record {
      waived = in-here Waived rows cell amount there whole;
      none_left = outstanding-here Waived rows cell amount there whole ∙ omega arith;
      elsewhere = λ other is apart. in-other Waived rows cell other amount there is apart;
      others = but_waived-set rows (cell.instalment - 1) (place_in_row cell.portion) amount;
    })
    (λ nothing_there.
    let low = ltb-false 0 amount nothing_there in
    let empty : amount ≡ 0 = omega (arith, low) in
    record {
      waived = omega (arith, empty);
      none_left = empty;
      elsewhere = λ other is apart. refl;
      others = refl;
    })
