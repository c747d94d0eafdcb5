use Rattle.std.proofs.Common.{◌≡◌, ◌≤◌, ℕ, List, length, take, nat_lt}
use Rattle.std.specs.List.{enumerate_from, flat_map}
use Rattle.mf_model.specs.Institution.{Institution}
use Rattle.mf_model.specs.Store.{rows_at}
use Rattle.mf_store.specs.Stands.{Stays, StandsFor, IsClean, IsOpen}
use Rattle.mf_store_lists.specs.Counted.{uncounted}
use Rattle.mf_store_lists.specs.Told.{told_if}
use Rattle.mf_store_lists.proofs.clients.page_looked_up.Given as goal

abbrev pub invariant-loop-before : goal.invariant-loop-before
invariant-loop-before g l = record {
  kept : Stays g.S.Store l.initial.store l.store;
  live : IsClean g.S.Store l.store → IsOpen g.S.Store l.initial.store → IsOpen g.S.Store l.store;
  from : l.after ≤ l.before;
  few : length l.lines.items ≤ 500;
  read : IsClean g.S.Store l.store → (i : Institution) → StandsFor g.S.Store l.initial.store i
      → l.clients ≡ length (rows_at l.office i).clients
      → l.lines.items ≡ flat_map (λ (c : ℕ × List ℕ). told_if (nat_lt l.after c.0) (uncounted c))
      (take l.before (enumerate_from 1 (rows_at l.office i).clients));
}
