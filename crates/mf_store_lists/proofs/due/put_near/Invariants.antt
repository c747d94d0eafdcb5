use Rattle.std.proofs.Common.{◌≡◌, ◌≤◌, ◌<◌, ◌-◌, [], length, take}
use Rattle.std.specs.List.{enumerate_from, flat_map}
use Rattle.mf_model.specs.Institution.{Institution}
use Rattle.mf_model.specs.Store.{rows_at}
use Rattle.mf_store.specs.Stands.{Stays, StandsFor, IsClean, IsOpen}
use Rattle.mf_store_lists.specs.Due.{due_told}
use Rattle.mf_store_lists.proofs.due.put_near.Given as goal

abbrev pub invariant-loop-reached : goal.invariant-loop-reached
invariant-loop-reached g l = record {
  kept : Stays g.S.Store l.initial.store l.store;
  live : IsClean g.S.Store l.store → IsOpen g.S.Store l.initial.store → IsOpen g.S.Store l.store;
  asked : IsClean g.S.Store l.store → l.after < l.reached → IsOpen g.S.Store l.store;
  from : l.after ≤ l.reached;
  few : length l.initial.lines.items ≤ 200 → length l.lines.items ≤ 200;
  read : IsClean g.S.Store l.store → (i : Institution) → StandsFor g.S.Store l.initial.store i
      → l.last ≤ length (rows_at l.office i).loans → l.initial.lines.items ≡ []
      → l.lines.items ≡ flat_map (due_told l.day l.after i.catalogue (rows_at l.office i))
      (take l.reached (enumerate_from 1 (rows_at l.office i).loans));
}

abbrev pub decreases-loop-reached : goal.decreases-loop-reached
decreases-loop-reached g l = l.last - l.reached
