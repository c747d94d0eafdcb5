use Rattle.std.proofs.Common.{◌≡◌, ◌<◌, ◌^◌}
use Rattle.mf_lists.specs.Rate.{after_days}
use Rattle.mf_lists.proofs.rate.grown.Given as goal

abbrev pub invariant-loop-day : goal.invariant-loop-day
invariant-loop-day l = record {
  same : l.balance ≡ after_days l.rate l._day l.fn.balance;
  small : l.balance < 2 ^ 101;
}
