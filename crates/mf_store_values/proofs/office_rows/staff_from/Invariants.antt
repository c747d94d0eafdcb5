use Rattle.std.proofs.Common.{◌≡◌, ℕ, List, take}
use Rattle.mf_model.specs.Institution.{Staff}
use Rattle.mf_store_schema.specs.Rows.{staff_row}
use Rattle.mf_store_values.specs.Flat.{staff_in, numbered_from}
use Rattle.mf_store_values.proofs.office_rows.staff_from.Given as goal

abbrev pub invariant-loop-row : goal.invariant-loop-row
invariant-loop-row l = (office : ℕ) (staff : List Staff) → l.rows
    ≡ numbered_from (λ number s. staff_row (staff_in office number s)) 1 staff → l.staff.items ≡ take l.row-index staff
