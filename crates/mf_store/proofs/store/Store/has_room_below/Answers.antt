use Rattle.std.proofs.Common.{ap, ◌∙◌}
use Rattle.mf_model.specs.Tree.{is_there, parent_of}
use Rattle.mf_store_values.specs.Flat.{key_at, has_room}
use Rattle.mf_store.proofs.VisibleLemmas.{room_is}
use Rattle.mf_store.proofs.store.Store.has_room_below.Goals as goal

pub returns-clause-value : goal.returns-clause-value
returns-clause-value g c clean i s =
    let tree = c.tree_of_offices.ensures i s.sound in
    c.has_room_below.ensures ∙ ap has_room (c.in_ok-key.ensures.value clean i s
    ∙ ap (λ x. key_at x i) c.get.ensures.value) ∙ room_is i s.sound tree c.args.office (c.depth_by_key.ensures.room
    (is_there i.offices) (parent_of i.offices) tree)
