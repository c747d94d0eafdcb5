-- What a payment does, cell by cell.
use Rattle.std.specs.Prelude.{◌≡◌, ℕ, ◌+◌, ◌-◌, ◌*◌, ◌<◌, min, List, length, map, slice_index}
use Rattle.mf_alloc.specs.declared.row.Cell.{Cell}
use Rattle.mf_alloc.specs.Sums.{Instalment, AreWhole, nothing}
use Rattle.mf_alloc.specs.Rows.{row_at, place_in_row, outstanding, with_paid}
use Rattle.mf_alloc.specs.Payment.{start, shares_of}
use Rattle.mf_alloc.specs.OrderLaws.{IsOrder}

-- what is paid in a cell
abbrev pub paid_in_cell : List Instalment → Cell → ℕ
paid_in_cell rows cell = slice_index (row_at rows cell.instalment).paid (place_in_row cell.portion)

-- a row, whatever is paid
abbrev pub but_paid : Instalment → Instalment
but_paid row = record row { paid = nothing }

-- in each cell, paid rises by what the cell's stretch of the line gets of the amount; nothing else changes
pub record IsPaidInto (order : ℕ → Cell) (amount : ℕ) (rows after : List Instalment) : Type 0 where
  pub paid : (k : ℕ) → k < 4 * length rows →
      paid_in_cell after (order k) ≡ paid_in_cell rows (order k) + min (outstanding rows (order k))
      (amount - start order rows k)
  pub others : map but_paid after ≡ map but_paid rows

-- an amount that is paid by a lawful order
abbrev pub PaidByCells : Type 0
PaidByCells =
    (order : ℕ → Cell) (place : Cell → ℕ) (rows : List Instalment) (amount : ℕ) → IsOrder (length rows) order place
    → AreWhole rows →
    IsPaidInto order amount rows (with_paid rows (shares_of order rows amount))
