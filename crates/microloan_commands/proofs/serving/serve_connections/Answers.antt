use Rattle.std.proofs.Common.{refl, subst}
use Rattle.std.specs.Prelude.{is_some}
use Rattle.mf_lists_runs.specs.Choice.{choice_if}
use Rattle.microloan_commands.specs.Served.{ServesConnections}
use Rattle.microloan_commands.proofs.ServedLemmas.{serves_nothing, serves_more}
use Rattle.microloan_commands.proofs.serving.serve_connections.Goals as goal

pub loop-init : goal.loop-init
loop-init g c = record {
  served = serves_nothing _ _ _ 0 _ _ _ _ refl refl;
  closed = c.requires;
}

pub loop-preserved : goal.loop-preserved
loop-preserved g c =
    let choice = choice_if g.L.Lists.folded (is_some c.args.lists) in
    let first = g.N.Listener.ended c.args.listener.now in
    let before = g.N.Listener.ended c.loop.listener in
    let after = g.N.Listener.ended c.serve_next-answered.new.listener in record {
      served = serves_more g.S.InstitutionStore choice c.args.told c.loop.counter c.loop.answered
          c.serve_next-answered.result first before after c.args.store.now c.loop.store
          c.serve_next-answered.new.store c.loop.invariant.served
          (subst (λ told. ServesConnections g.S.InstitutionStore choice told 1 before after c.loop.store
          c.serve_next-answered.new.store c.serve_next-answered.result) c.in-Ok.ensures.0
          (subst (λ lists. ServesConnections g.S.InstitutionStore (choice_if g.L.Lists.folded (is_some lists))
          c.in-Ok.desk.desk.told 1 before after c.loop.store c.serve_next-answered.new.store
          c.serve_next-answered.result) c.in-Ok.ensures.1 c.serve_next-answered.ensures.served));
      closed = c.serve_next-answered.ensures.closed;
    }
