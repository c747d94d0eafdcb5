-- Which of two cells is taken first where what is due is taken first, in words.
use Rattle.std.specs.Prelude.{◌≡◌, ◌↔◌, ◌⊎◌, ℕ, ◌<◌, ◌≤◌}
use Rattle.mf_catalog.specs.declared.terms.StrategyName.TheVariants.{DueFirst}
use Rattle.mf_alloc.specs.declared.row.Cell.{Cell}
use Rattle.mf_alloc.specs.Rows.{IsCell, place_in_row}
use Rattle.mf_alloc.specs.Order.{place_by}

-- a cell of an instalment that is due, where those up to `due` are
abbrev pub IsDue : ℕ → Cell → Type 0
IsDue due cell = cell.instalment ≤ due

-- its portion comes first: penalty, fee, interest, principal
abbrev pub IsPortionBefore : Cell → Cell → Type 0
IsPortionBefore a b = place_in_row a.portion < place_in_row b.portion

-- of what is due: the portion that comes first, and of equal portions the lower instalment
abbrev pub IsBeforeOfDue : Cell → Cell → Type 0
IsBeforeOfDue a b = IsPortionBefore a b ⊎ ((a.portion ≡ b.portion) × (a.instalment < b.instalment))

-- of what is not due: the lower instalment, and within one the portion that comes first
abbrev pub IsBeforeOfLater : Cell → Cell → Type 0
IsBeforeOfLater a b = (a.instalment < b.instalment) ⊎ ((a.instalment ≡ b.instalment) × IsPortionBefore a b)

-- what is due before what is not
abbrev pub IsBefore : ℕ → Cell → Cell → Type 0
IsBefore due a b =
    (IsDue due a × IsDue due b × IsBeforeOfDue a b)
    ⊎ ((IsDue due a × (¬ IsDue due b)) ⊎ ((¬ IsDue due a) × (¬ IsDue due b) × IsBeforeOfLater a b))

-- the order of the strategy is this one
abbrev pub DueComesFirst : Type 0
DueComesFirst =
    (n due : ℕ) (a b : Cell) → IsCell n a → IsCell n b → (place_by DueFirst due a < place_by DueFirst due b)
    ↔ IsBefore due a b
