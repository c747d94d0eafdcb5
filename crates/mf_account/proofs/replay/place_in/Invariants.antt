use Rattle.std.proofs.Common.{◌≢◌, ℕ, ◌<◌, ◌≤◌, get_or, length}
use Rattle.mf_account.proofs.replay.place_in.Given as goal

abbrev pub invariant-loop-k : goal.invariant-loop-k
invariant-loop-k l = record {
  within : l.k ≤ length l.order;
  none : (j : ℕ) → l.k ≤ j → j < length l.order → get_or l.order j 0 ≢ l.at;
}

abbrev pub decreases-loop-k : goal.decreases-loop-k
decreases-loop-k l = l.k
