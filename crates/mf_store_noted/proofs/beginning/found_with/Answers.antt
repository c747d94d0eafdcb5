use Rattle.std.proofs.Common.{◌∙◌, ◌++◌, ◌∷◌, [], Some, ap, append_assoc, refl, rules}
use Rattle.mf_model.specs.Institution.{newly_made}
use Rattle.mf_store_journal.specs.declared.noting.NotedWrite.TheVariants.{Put, Begin}
use Rattle.mf_store_noted.specs.Kept.{journaled}
use Rattle.mf_store_noted.proofs.CanBeLemmas.{can_be_none}
use Rattle.mf_store_noted.proofs.BeginningLemmas.{founded_kept, founded_stop}
use Rattle.mf_store_noted.proofs.TurnedLemmas.{settled_leaves}
use Rattle.mf_store_noted.proofs.beginning.found_with.Goals as goal

pub returns-in-Ok-clause-made : goal.returns-in-Ok-clause-made
returns-in-Ok-clause-made g c clean day sound b is none =
    let puts = c.in_ok-noted.noted.items in
    let items = c.deref.ensures.value ∙ c.in_ok-push-2.ensures.items
    ∙ ap (λ l. l ++ Begin c.args.begins ∷ []) c.in_ok-push.ensures.items
    ∙ append_assoc puts (Put c.args.meta ∷ []) (Begin c.args.begins ∷ []) in
    founded_kept c.args.begins day c.deref.result.now puts c.args.writes.now (Put c.args.meta) items
    c.in_ok-noted.ensures.puts b is sound g.S.Store c.args.connection.now c.apply.new.connection none
    (c.in-Ok.ensures.ok clean)

pub returns-in-Ok-clause-left : goal.returns-in-Ok-clause-left
returns-in-Ok-clause-left g c clean day sound b is none =
    let puts = c.in_ok-noted.noted.items in
    let items = c.deref.ensures.value ∙ c.in_ok-push-2.ensures.items
    ∙ ap (λ l. l ++ Begin c.args.begins ∷ []) c.in_ok-push.ensures.items
    ∙ append_assoc puts (Put c.args.meta ∷ []) (Begin c.args.begins ∷ []) in
    settled_leaves g.S.Store (Some c.args.begins) c.apply.new.connection
    (λ trees live may. g.met.S.Store.settled c.apply.new.connection.store trees live may)
    (c.in-Ok.ensures.settled clean) (journaled (newly_made day)) (
      [],
      refl,
      can_be_none c.args.begins
          (c.can_begin.ensures.0 (search rules)),
    )
    (founded_kept c.args.begins day c.deref.result.now puts c.args.writes.now (Put c.args.meta) items
    c.in_ok-noted.ensures.puts b is sound g.S.Store c.args.connection.now c.apply.new.connection none
    (c.in-Ok.ensures.ok clean))

pub returns-in-Ok-clause-stop : goal.returns-in-Ok-clause-stop
returns-in-Ok-clause-stop g c clean day sound b is none =
    let puts = c.in_ok-noted.noted.items in
    let items = c.deref.ensures.value ∙ c.in_ok-push-2.ensures.items
    ∙ ap (λ l. l ++ Begin c.args.begins ∷ []) c.in_ok-push.ensures.items
    ∙ append_assoc puts (Put c.args.meta ∷ []) (Begin c.args.begins ∷ []) in
    founded_stop c.args.begins day c.deref.result.now puts c.args.writes.now (Put c.args.meta) items
    c.in_ok-noted.ensures.puts b is sound g.S.Store c.args.connection.now c.apply.new.connection none
    c.apply.ensures.crash clean

pub returns-clause-stop : goal.returns-clause-stop
returns-clause-stop g c clean day sound b is none =
    let puts = c.in_ok-noted.noted.items in
    let items = c.deref.ensures.value ∙ c.in_ok-push-2.ensures.items
    ∙ ap (λ l. l ++ Begin c.args.begins ∷ []) c.in_ok-push.ensures.items
    ∙ append_assoc puts (Put c.args.meta ∷ []) (Begin c.args.begins ∷ []) in
    founded_stop c.args.begins day c.deref.result.now puts c.args.writes.now (Put c.args.meta) items
    c.in_ok-noted.ensures.puts b is sound g.S.Store c.args.connection.now c.apply.new.connection none
    c.apply.ensures.crash clean
