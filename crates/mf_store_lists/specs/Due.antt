-- What is due of one loan after another of an office.
use Rattle.std.specs.Prelude.{ℕ, Bool, ◌&&◌, cond, nat_le, nat_lt, List, [], ◌∷◌, sum_by}
use Rattle.mf_alloc.specs.Sums.{Instalment, is_open, open_at}
use Rattle.mf_lists.specs.declared.lines.DueLine.{DueLine}
use Rattle.mf_lists.specs.Lists.{due_line, is_due}
use Rattle.mf_model.specs.Institution.{Catalogue, Ledger, Rows}
use Rattle.mf_store_lists.specs.Told.{told_if}

-- something of an instalment is due by a day and outstanding
abbrev pub is_row_due : ℕ → Instalment → Bool
is_row_due day row = is_open row && nat_le row.due day

-- what is due of a portion of an instalment by a day, and outstanding
abbrev pub due_of_row : ℕ → ℕ → Instalment → ℕ
due_of_row portion day row = cond (nat_le row.due day) (open_at row portion) 0

-- the same of instalments
abbrev pub portion_of : ℕ → ℕ → List Instalment → ℕ
portion_of portion day rows = sum_by (due_of_row portion day) rows

-- by portion
abbrev pub portions_of : ℕ → List Instalment → List ℕ
portions_of day rows =
    portion_of 0 day rows ∷ portion_of 1 day rows ∷ portion_of 2 day rows ∷ portion_of 3 day rows ∷ []

-- a loan of an office, where its number is above one and something of it is due by a day
abbrev pub due_told : ℕ → ℕ → Catalogue → Rows → ℕ × Ledger → List DueLine
due_told day after k rows l = told_if (nat_lt after l.0 && is_due day k l.1) (due_line day k rows l)
