use Rattle.std.proofs.Common.{◌<◌, ◌≤◌, ◌-◌}
use Rattle.mf_store.specs.Stands.{Stays, IsClean, IsOpen}
use Rattle.mf_store.proofs.store.Store.above_last.Given as goal

abbrev pub invariant-loop-high : goal.invariant-loop-high
invariant-loop-high g l = record {
  kept : Stays g.S.Store l.initial.self l.self;
  live : IsClean g.S.Store l.self → IsOpen g.S.Store l.initial.self → IsOpen g.S.Store l.self;
  some : 0 < l.high;
  bound : l.high ≤ 2000000;
}

abbrev pub decreases-loop-high : goal.decreases-loop-high
decreases-loop-high g l = 2000000 - l.high
