use Rattle.std.proofs.Common.{length, ◌-◌, ◌≡◌, ◌≤◌, drop}
use Rattle.mf_account.specs.Change.{settled_in}
use Rattle.mf_account.proofs.change.next_own.Given as goal

abbrev pub invariant-loop-k : goal.invariant-loop-k
invariant-loop-k l = record {
  from : l.from ≤ l.k;
  within : l.k ≤ length l.parts;
  none : settled_in l.seq (drop l.from l.parts) ≡ settled_in l.seq (drop l.k l.parts);
}

abbrev pub decreases-loop-k : goal.decreases-loop-k
decreases-loop-k l = length l.parts - l.k
