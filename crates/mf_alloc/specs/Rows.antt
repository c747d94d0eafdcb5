-- What is owed and outstanding in a cell, and what paying into one leaves.
use Rattle.std.specs.Prelude.{ℕ, ◌+◌, ◌-◌, ◌≤◌, List, [], ◌∷◌, slice_index, slice_index_or, slice_set, length}
use Rattle.mf_alloc.specs.declared.row.Portion.{Portion}
use Rattle.mf_alloc.specs.declared.row.Portion.TheVariants.{Penalty, Fee, Interest, Principal}
use Rattle.mf_alloc.specs.declared.row.Cell.{Cell}
use Rattle.mf_alloc.specs.Sums.{Instalment}
use Rattle.mf_alloc.specs.declared.row.Share.{Share}
use Rattle.mf_alloc.specs.Sums.{open_at}

-- a portion's place in a row's sums
abbrev pub place_in_row : Portion → ℕ
place_in_row Penalty = 0
place_in_row Fee = 1
place_in_row Interest = 2
place_in_row Principal = 3

-- one of the cells of n instalments, which are numbered from 1
pub record IsCell (n : ℕ) (cell : Cell) : Type 0 where
  pub first : 1 ≤ cell.instalment
  pub last : cell.instalment ≤ n

-- a row that owes nothing
abbrev pub no_row : Instalment
no_row = record { due = 0; owed = []; paid = []; waived = []; written_off = [] }

-- the row of an instalment, counted from 1
abbrev pub row_at : List Instalment → ℕ → Instalment
row_at rows instalment = slice_index_or rows (instalment - 1) no_row

-- what is outstanding in a cell
abbrev pub outstanding : List Instalment → Cell → ℕ
outstanding rows cell = open_at (row_at rows cell.instalment) (place_in_row cell.portion)

-- one sum raised or lowered
abbrev pub plus_at : List ℕ → ℕ → ℕ → List ℕ
plus_at sums p amount = slice_set sums p (slice_index sums p + amount)

-- sums with less in one portion
abbrev pub minus_at : List ℕ → ℕ → ℕ → List ℕ
minus_at sums p amount = slice_set sums p (slice_index sums p - amount)

-- one instalment's row changed
abbrev pub rows_changed_at : List Instalment → ℕ → (Instalment → Instalment) → List Instalment
rows_changed_at rows instalment change = slice_set rows (instalment - 1) (change (row_at rows instalment))

-- a row with more paid of a portion
abbrev pub pay_row : ℕ → ℕ → Instalment → Instalment
pay_row p amount row = record row { paid = plus_at row.paid p amount }

-- a row with less paid of a portion
abbrev pub unpay_row : ℕ → ℕ → Instalment → Instalment
unpay_row p amount row = record row { paid = minus_at row.paid p amount }

-- a share is paid into its cell, or taken out of it
abbrev pub pay_into : List Instalment → Share → List Instalment
pay_into rows share =
    rows_changed_at rows share.cell.instalment (pay_row (place_in_row share.cell.portion) share.amount)

-- rows with a share paid no more
abbrev pub take_out : List Instalment → Share → List Instalment
take_out rows share =
    rows_changed_at rows share.cell.instalment (unpay_row (place_in_row share.cell.portion) share.amount)

-- all of them, first to last; and back, last to first
abbrev pub with_paid : List Instalment → List Share → List Instalment
with_paid rows [] = rows
with_paid rows (share ∷ shares) = with_paid (pay_into rows share) shares

-- rows with shares paid no more
abbrev pub without_paid : List Instalment → List Share → List Instalment
without_paid rows [] = rows
without_paid rows (share ∷ shares) = take_out (without_paid rows shares) share

-- each share is in a cell, and at most what is outstanding there when its turn comes
abbrev pub IsPayable : List Instalment → List Share → Type 0
IsPayable rows [] = Unit {0}
IsPayable rows (share ∷ shares) =
    IsCell (length rows) share.cell × (share.amount ≤ outstanding rows share.cell)
    × IsPayable (pay_into rows share) shares
