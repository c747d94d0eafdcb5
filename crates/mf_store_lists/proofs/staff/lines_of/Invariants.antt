use Rattle.std.proofs.Common.{◌≡◌, ℕ, List, map, take}
use Rattle.mf_lists.specs.Lists.{staff_line}
use Rattle.mf_model.specs.Institution.{Staff}
use Rattle.mf_store_schema.specs.Rows.{staff_row}
use Rattle.mf_store_values.specs.Flat.{staff_in}
use Rattle.mf_store_lists.proofs.staff.lines_of.Given as goal

abbrev pub invariant-loop-row : goal.invariant-loop-row
invariant-loop-row l = (office : ℕ) (staff : List (ℕ × Staff))
    → l.rows ≡ map (λ s. staff_row (staff_in office s.0 s.1)) staff
    → l.lines.items ≡ map staff_line (take l.row-index staff)
