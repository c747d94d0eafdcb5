use Rattle.std.proofs.Common.{◌≡◌, None, map, sym, ap, ◌∙◌, rules}
use Rattle.std.proofs.lemmas.Result.{IfOk-weaker}
use Rattle.mf_model.specs.Tree.{parent_of, seen_by}
use Rattle.mf_model.specs.Desk.{office_shown}
use Rattle.mf_store_values.specs.Flat.{key_at}
use Rattle.mf_store.proofs.VisibleLemmas.{none_seen, offices_are}
use Rattle.mf_store.proofs.store.Store.offices.Goals as goal

pub returns-in_default-clause-value : goal.returns-in_default-clause-value
returns-in_default-clause-value g c clean i s =
    let none : c.in_ok-found.found ≡ None = search rules in
    c.new-in_default.ensures ∙ c.new.ensures.items
    ∙ sym (ap (map office_shown)
    (none_seen i s.sound (c.tree_of_offices.ensures i s.sound) c.args.to c.in_ok-found.found
    none (c.in_ok-found.ensures.value clean i s ∙ ap (λ x. key_at x i) c.get.ensures.value)))

pub returns-clause-value : goal.returns-clause-value
returns-clause-value g c clean i s =
    let before = c.in_ok-rows.ensures.asks.kept.premise clean in
    let shown = c.in_ok-rows.ensures.rows clean i (c.in_ok-found.ensures.asks.kept.same before i s) in
    let found = c.in_ok-found.ensures.value before i s ∙ ap (λ x. key_at x i) c.get.ensures.value in
    let rows = offices_are i s.sound (c.tree_of_offices.ensures i s.sound) c.args.to c.in_ok-found.found c.in-Some.above
    c.as_str.result.now c.as_str-2.result.now c.in-Some.is found (c.as_str.ensures.value ∙ c.in_ok-low.ensures.low)
    (c.as_str-2.ensures.value ∙ c.in_ok-low.ensures.high) in
    IfOk-weaker c.offices_from.result _ _ (λ list h. h (parent_of i.offices) (seen_by c.args.to i.offices)
    (c.deref.ensures.value ∙ shown ∙ rows))
    c.offices_from.ensures.offices
