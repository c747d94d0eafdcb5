use Rattle.std.proofs.Common.{◌≡◌, ◌≤◌, ℕ, List, map, take, length, nat_lt}
use Rattle.std.specs.List.{flat_map}
use Rattle.mf_store_schema.specs.Rows.{client_row}
use Rattle.mf_store_values.specs.Flat.{client_in}
use Rattle.mf_store_lists.specs.Counted.{uncounted}
use Rattle.mf_store_lists.specs.Told.{told_if}
use Rattle.mf_store_lists.proofs.clients.page_of.Given as goal

abbrev pub invariant-loop-row : goal.invariant-loop-row
invariant-loop-row l = record {
  few : length l.lines.items ≤ 500;
  read : (office : ℕ) (cs : List (ℕ × List ℕ)) → l.rows ≡ map (λ c. client_row (client_in office c.0 c.1)) cs
      → l.lines.items
      ≡ flat_map (λ (c : ℕ × List ℕ). told_if (nat_lt l.after c.0) (uncounted c)) (take l.row-index cs);
}
