use Rattle.std.proofs.Common.{◌<◌, ◌≤◌, ◌-◌}
use Rattle.mf_model.specs.Institution.{Institution}
use Rattle.mf_store.specs.Counts.{count_of}
use Rattle.mf_store.specs.Stands.{Stays, StandsFor, IsClean, IsOpen}
use Rattle.mf_store.proofs.store.Store.last_below.Given as goal

abbrev pub invariant-loop-high : goal.invariant-loop-high
invariant-loop-high g l = record {
  kept : Stays g.S.Store l.initial.self l.self;
  live : IsClean g.S.Store l.self → IsOpen g.S.Store l.initial.self → IsOpen g.S.Store l.self;
  order : l.low < l.high;
  bound : l.high ≤ l.bound;
  between : IsClean g.S.Store l.self → (i : Institution) → StandsFor g.S.Store l.initial.self i → count_of l.kind i
      < l.bound → (l.low ≤ count_of l.kind i) × (count_of l.kind i < l.high);
}

abbrev pub decreases-loop-high : goal.decreases-loop-high
decreases-loop-high g l = l.high - l.low
