-- The orders of the named strategies at a day. Three go instalment after instalment, each with its portions in one
-- order; the fourth takes what is due first.
use Rattle.std.specs.Prelude.{ℕ, Bool, ◌+◌, ◌-◌, ◌*◌, ◌/◌, ◌%◌, ◌==◌, nat_le, nat_lt, if◌then◌else◌, List, length, map}
use Rattle.std.specs.Prelude.{count_by}
use Rattle.mf_alloc.specs.declared.row.Portion.{Portion}
use Rattle.mf_alloc.specs.declared.row.Portion.TheVariants.{Penalty, Fee, Interest, Principal}
use Rattle.mf_alloc.specs.declared.row.Cell.{Cell}
use Rattle.mf_alloc.specs.Rows.{place_in_row}
use Rattle.mf_alloc.specs.Sums.{Instalment}
use Rattle.mf_catalog.specs.declared.terms.StrategyName.{StrategyName}
use Rattle.mf_catalog.specs.declared.terms.StrategyName.TheVariants.{MifosStandard, PrincipalFirst, InterestFirst}
use Rattle.mf_catalog.specs.declared.terms.StrategyName.TheVariants.{DueFirst}

-- the first, second, third or last of four portions
abbrev pub pick : Portion → Portion → Portion → Portion → ℕ → Portion
pick a b c d k = if k == 0 then a else (if k == 1 then b else (if k == 2 then c else d))

-- penalty, fee, interest, principal
abbrev pub standard : ℕ → Portion
standard = pick Penalty Fee Interest Principal

-- the order in which a strategy takes the portions of an instalment
abbrev pub portion_by : StrategyName → ℕ → Portion
portion_by MifosStandard = standard
portion_by PrincipalFirst = pick Principal Interest Penalty Fee
portion_by InterestFirst = pick Interest Principal Penalty Fee
portion_by DueFirst = standard

-- two portions are one
abbrev pub is_same : Portion → Portion → Bool
is_same a b = place_in_row a == place_in_row b

-- the place of a portion in an order: the first at which it stands
abbrev pub place_among : (ℕ → Portion) → Portion → ℕ
place_among portions p =
    if is_same p (portions 0) then 0 else (if is_same p (portions 1) then 1 else (if is_same p (portions 2) then 2
    else 3))

-- instalment after instalment: the cell at place k
abbrev pub in_order_of_instalments : (ℕ → Portion) → ℕ → Cell
in_order_of_instalments portions k = record { instalment = k / 4 + 1; portion = portions (k % 4) }

-- the place of a cell, by the place of its portion
abbrev pub place_by_instalment : (Portion → ℕ) → Cell → ℕ
place_by_instalment place cell = 4 * (cell.instalment - 1) + place cell.portion

-- due first: over the instalments from 1 to `due`, their penalties, then their fees, their interest and their
-- principal; then each later instalment with its four portions
abbrev pub due_first : ℕ → ℕ → Cell
due_first due k =
    if nat_lt k (4 * due) then record { instalment = k % due + 1; portion = standard (k / due) }
    else in_order_of_instalments standard k

-- the place of a cell where what is due comes first
abbrev pub due_first_place : ℕ → Cell → ℕ
due_first_place due cell =
    if nat_le cell.instalment due then place_among standard cell.portion * due + (cell.instalment - 1)
    else place_by_instalment (place_among standard) cell

-- the order that a strategy's name stands for, where so many instalments are due
abbrev pub cell_by : StrategyName → ℕ → ℕ → Cell
cell_by MifosStandard due = in_order_of_instalments (portion_by MifosStandard)
cell_by PrincipalFirst due = in_order_of_instalments (portion_by PrincipalFirst)
cell_by InterestFirst due = in_order_of_instalments (portion_by InterestFirst)
cell_by DueFirst due = due_first due

-- the place of a cell in a strategy's order
abbrev pub place_by : StrategyName → ℕ → Cell → ℕ
place_by MifosStandard due = place_by_instalment (place_among (portion_by MifosStandard))
place_by PrincipalFirst due = place_by_instalment (place_among (portion_by PrincipalFirst))
place_by InterestFirst due = place_by_instalment (place_among (portion_by InterestFirst))
place_by DueFirst due = due_first_place due

-- the due days of rows
abbrev pub dues_of : List Instalment → List ℕ
dues_of rows = map (λ (row : Instalment). row.due) rows

-- how many instalments are due by a day: those whose due day is on or before it
abbrev pub due_by : ℕ → List Instalment → ℕ
due_by day rows = count_by (λ due. nat_le due day) (dues_of rows)

-- the order of the cells of rows at a day
abbrev pub order_at : (ℕ → ℕ → ℕ → Cell) → List Instalment → ℕ → ℕ → Cell
order_at cells rows day = cells (length rows) (due_by day rows)
