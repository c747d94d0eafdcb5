use Rattle.std.specs.Prelude.{◌≡◌, false, is_some}
use Rattle.mf_lists_runs.specs.Choice.{choice_if}
use Rattle.microloan_commands.specs.Served.{ServesConnections}
use Rattle.microloan_commands.proofs.serving.serve_connections.Given as goal

abbrev pub invariant-loop : goal.invariant-loop
invariant-loop g l = record {
  served : ServesConnections g.S.InstitutionStore (choice_if g.L.Lists.folded (is_some l.lists)) l.told
      l.counter (g.N.Listener.ended l.initial.listener) (g.N.Listener.ended l.listener) l.initial.store l.store
      l.answered;
  closed : g.N.Listener.is_open l.listener ≡ false;
}
