use Rattle.std.proofs.Common.{[], ◌∷◌, Some, refl, rules}
use Rattle.mf_store_journal.specs.declared.noting.NotedWrite.TheVariants.{Put, Begin}
use Rattle.mf_store_noted.specs.Kept.{journaled}
use Rattle.mf_store_noted.proofs.CanBeLemmas.{can_be_none}
use Rattle.mf_store_noted.proofs.BeginningLemmas.{begun_kept, begun_stop}
use Rattle.mf_store_noted.proofs.TurnedLemmas.{settled_leaves}
use Rattle.mf_store_noted.proofs.beginning.begin_with.Goals as goal

pub returns-in-Ok-clause-made : goal.returns-in-Ok-clause-made
returns-in-Ok-clause-made g c clean i s is =
    begun_kept c.args.begins i (Put c.args.meta ∷ Begin c.args.begins ∷ []) (Put c.args.meta) refl is g.S.Store
    c.args.connection.now c.apply.new.connection s (c.apply.ensures.was_open clean) (c.in-Ok.ensures.ok clean)

pub returns-in-Ok-clause-left : goal.returns-in-Ok-clause-left
returns-in-Ok-clause-left g c clean i s is =
    settled_leaves g.S.Store (Some c.args.begins) c.apply.new.connection
    (λ trees live may. g.met.S.Store.settled c.apply.new.connection.store trees live may)
    (c.in-Ok.ensures.settled clean) (journaled i) (
      [],
      refl,
      can_be_none c.args.begins
          (c.can_begin.ensures.0 (search rules)),
    )
    (begun_kept c.args.begins i (Put c.args.meta ∷ Begin c.args.begins ∷ []) (Put c.args.meta) refl is g.S.Store
    c.args.connection.now c.apply.new.connection s (c.apply.ensures.was_open clean) (c.in-Ok.ensures.ok clean))

pub returns-in-Ok-clause-stop : goal.returns-in-Ok-clause-stop
returns-in-Ok-clause-stop g c clean i s is =
    begun_stop c.args.begins i (Put c.args.meta ∷ Begin c.args.begins ∷ []) (Put c.args.meta) refl is g.S.Store
    c.args.connection.now c.apply.new.connection s c.apply.ensures.crash clean

pub returns-in-Err-clause-stop : goal.returns-in-Err-clause-stop
returns-in-Err-clause-stop g c clean i s is =
    begun_stop c.args.begins i (Put c.args.meta ∷ Begin c.args.begins ∷ []) (Put c.args.meta) refl is g.S.Store
    c.args.connection.now c.apply.new.connection s c.apply.ensures.crash clean
