use Rattle.std.proofs.Common.{ap, ap₂, ◌∙◌}
use Rattle.std.proofs.lemmas.Result.{IfOk-weaker}
use Rattle.mf_store_values.specs.Flat.{key_at, sees}
use Rattle.mf_store.proofs.VisibleLemmas.{visible_is}
use Rattle.mf_store.proofs.store.Store.visible.Goals as goal

pub returns-clause-value : goal.returns-clause-value
returns-clause-value g c clean i s =
    let before = c.in_ok-below.ensures.asks.kept.premise clean in
    let one = c.in_ok-above.ensures.value before i s ∙ ap (λ x. key_at x i) c.get.ensures.value in
    let two = c.in_ok-below.ensures.value clean i (c.in_ok-above.ensures.asks.kept.same before i s)
    ∙ ap (λ x. key_at x i) c.get-2.ensures.value in
    IfOk-weaker c.is_below.result _ _ (λ seen e. e ∙ ap₂ sees one two ∙ visible_is i s.sound
    (c.tree_of_offices.ensures i s.sound) c.args.to
    c.args.office) c.is_below.ensures.value
