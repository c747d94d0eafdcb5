-- What a write-off and a waiver do, cell by cell.
use Rattle.std.specs.Prelude.{◌≡◌, ◌≢◌, ℕ, ◌+◌, ◌*◌, ◌<◌, List, length, map, slice_index}
use Rattle.mf_alloc.specs.declared.row.Cell.{Cell}
use Rattle.mf_alloc.specs.Sums.{Instalment, AreWhole, nothing}
use Rattle.mf_alloc.specs.Rows.{IsCell, row_at, place_in_row, outstanding}
use Rattle.mf_alloc.specs.OrderLaws.{IsOrder}
use Rattle.mf_account.specs.declared.entry.Entry.{Entry}
use Rattle.mf_account.specs.declared.entry.Kind.TheVariants.{Waive, WriteOff}
use Rattle.mf_account.specs.Effect.{with_settled, parts_by}

-- what is written off, and what is waived, in a cell
abbrev pub written_off_in_cell : List Instalment → Cell → ℕ
written_off_in_cell rows cell = slice_index (row_at rows cell.instalment).written_off (place_in_row cell.portion)

-- what is waived in a cell
abbrev pub waived_in_cell : List Instalment → Cell → ℕ
waived_in_cell rows cell = slice_index (row_at rows cell.instalment).waived (place_in_row cell.portion)

-- a row, whatever is written off, and whatever is waived
abbrev pub but_written_off : Instalment → Instalment
but_written_off row = record row { written_off = nothing }

-- a row without what is waived in it
abbrev pub but_waived : Instalment → Instalment
but_waived row = record row { waived = nothing }

-- in each cell all that is outstanding is written off; nothing else changes
pub record IsAllWrittenOff (order : ℕ → Cell) (rows after : List Instalment) : Type 0 where
  pub written_off : (k : ℕ) → k < 4 * length rows →
      written_off_in_cell after (order k) ≡ written_off_in_cell rows (order k) + outstanding rows (order k)
  pub none_left : (k : ℕ) → k < 4 * length rows → outstanding after (order k) ≡ 0
  pub others : map but_written_off after ≡ map but_written_off rows

-- in one cell all that is outstanding is waived; nothing else changes
pub record IsCellWaived (cell : Cell) (rows after : List Instalment) : Type 0 where
  pub waived : waived_in_cell after cell ≡ waived_in_cell rows cell + outstanding rows cell
  pub none_left : outstanding after cell ≡ 0
  pub elsewhere : (other : Cell) → IsCell (length rows) other → other ≢ cell → waived_in_cell after other
      ≡ waived_in_cell rows other
  pub others : map but_waived after ≡ map but_waived rows

-- the cell that a waiver names
abbrev pub cell_of : Entry → Cell
cell_of entry = record { instalment = entry.instalment; portion = entry.portion }

-- a write-off by a lawful order, and a waiver of a cell that is there
abbrev pub WritesOffByCells : Type 0
WritesOffByCells =
    (order : ℕ → Cell) (place : Cell → ℕ) (entry : Entry) (rows : List Instalment) → IsOrder (length rows) order place
    → AreWhole rows →
    IsAllWrittenOff order rows (with_settled rows (parts_by WriteOff order entry rows))

-- a waiver clears its cell and changes nothing else
abbrev pub WaivesOneCell : Type 0
WaivesOneCell =
    (order : ℕ → Cell) (entry : Entry) (rows : List Instalment) → IsCell (length rows) (cell_of entry) → AreWhole rows →
    IsCellWaived (cell_of entry) rows (with_settled rows (parts_by Waive order entry rows))
