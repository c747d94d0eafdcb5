use Rattle.std.proofs.Common.{length, ◌-◌, ◌≡◌, ◌<◌, ◌≤◌, ◌↔◌, drop, get_or}
use Rattle.mf_account.specs.Change.{settled_in}
use Rattle.mf_account.specs.Applicable.{no_settled}
use Rattle.mf_account.proofs.change.has_same_parts.Given as goal

abbrev pub invariant-loop-i : goal.invariant-loop-i
invariant-loop-i l = record {
  within_before : l.i ≤ length l.before;
  within_after : l.k ≤ length l.after;
  own_before : l.i < length l.before → (get_or l.before l.i no_settled).seq ≡ l.seq;
  own_after : l.k < length l.after → (get_or l.after l.k no_settled).seq ≡ l.seq;
  same : (settled_in l.seq l.before ≡ settled_in l.seq l.after)
      ↔ (settled_in l.seq (drop l.i l.before) ≡ settled_in l.seq (drop l.k l.after));
}

abbrev pub decreases-loop-i : goal.decreases-loop-i
decreases-loop-i l = length l.before - l.i
