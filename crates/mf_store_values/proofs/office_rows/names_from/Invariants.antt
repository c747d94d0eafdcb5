use Rattle.std.proofs.Common.{◌≡◌, ℕ, List, take}
use Rattle.mf_store_schema.specs.Rows.{client_row}
use Rattle.mf_store_values.specs.Flat.{client_in, numbered_from}
use Rattle.mf_store_values.proofs.office_rows.names_from.Given as goal

abbrev pub invariant-loop-row : goal.invariant-loop-row
invariant-loop-row l = (office : ℕ) (names : List (List ℕ)) → l.rows ≡ numbered_from (λ number name.
    client_row (client_in office number name)) 1 names → l.names.items ≡ take l.row-index names
