use Rattle.std.proofs.Common.{◌∙◌}
use Rattle.sqlite.specs.Held.{state}
use Rattle.mf_store_schema.proofs.CommitLemmas.{upgraded_to, stop}
use Rattle.mf_store_schema.proofs.upgrading.upgrade.Goals as goal

pub returns-in-Ok-apply-clause-made : goal.returns-in-Ok-apply-clause-made
returns-in-Ok-apply-clause-made g c clean lists can keeping =
    upgraded_to (state g.S.Store c.args.connection.now) (state g.S.Store c.apply.new.connection) c.args.meta
    c.args.instalments.items c.args.shares.items c.deref.result.now (c.deref.ensures.value ∙ c.in-Ok.ensures.writes)
    lists can keeping
    (c.apply.ensures.was_open clean) (c.in-Ok-apply.ensures.ok clean) (λ trees live may. g.met.S.Store.settled
    c.apply.new.connection.store trees live may) (c.in-Ok-apply.ensures.settled clean)

pub returns-in-Ok-apply-clause-stop : goal.returns-in-Ok-apply-clause-stop
returns-in-Ok-apply-clause-stop g c clean lists can keeping =
    stop (state g.S.Store c.args.connection.now) (state g.S.Store c.apply.new.connection) c.args.meta
    c.args.instalments.items c.args.shares.items c.deref.result.now (c.deref.ensures.value ∙ c.in-Ok.ensures.writes)
    lists can keeping c.apply.ensures.crash clean

pub returns-clause-stop : goal.returns-clause-stop
returns-clause-stop g c clean lists can keeping =
    stop (state g.S.Store c.args.connection.now) (state g.S.Store c.apply.new.connection) c.args.meta
    c.args.instalments.items c.args.shares.items c.deref.result.now (c.deref.ensures.value ∙ c.in-Ok.ensures.writes)
    lists can keeping c.apply.ensures.crash clean
