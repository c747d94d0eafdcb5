use Rattle.std.proofs.Common.{◌≤◌}
use Rattle.mf_store_journal.proofs.index.sought_together.Given as goal

abbrev pub invariant-loop-at : goal.invariant-loop-at
invariant-loop-at l = (1 ≤ l.count) × (l.count ≤ 1000)
