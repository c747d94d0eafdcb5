use Rattle.std.proofs.Common.{length, ◌-◌, ◌≡◌, ℕ, ◌<◌, ◌≤◌, get_or}
use Rattle.mf_account.specs.Applicable.{no_settled}
use Rattle.mf_account.proofs.change.own_end.Given as goal

abbrev pub invariant-loop-end : goal.invariant-loop-end
invariant-loop-end l = record {
  from : l.from ≤ l.end;
  within : l.end ≤ length l.parts;
  own : (j : ℕ) → l.from ≤ j → j < l.end → (get_or l.parts j no_settled).seq ≡ l.seq;
}

abbrev pub decreases-loop-end : goal.decreases-loop-end
decreases-loop-end l = length l.parts - l.end
