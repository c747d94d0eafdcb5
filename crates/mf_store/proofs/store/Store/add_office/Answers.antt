use Rattle.std.proofs.Common.{◌≡◌, false, refl, sym, ap, ◌∙◌, string_bytes, rules}
use Rattle.mf_office.specs.Keys.{key_of, child_key}
use Rattle.mf_model.specs.Institution.{office_at}
use Rattle.mf_model.specs.Tree.{is_there, parent_of}
use Rattle.mf_store_commits.proofs.CommitLemmas.{office_becomes, same_office, office_known, none_there}
use Rattle.mf_store.proofs.KeptLemmas.{stays_then}
use Rattle.mf_store.proofs.MadeLemmas.{beside}
use Rattle.mf_store.proofs.NewsLemmas.{office_tells}
use Rattle.mf_store.proofs.store.Store.add_office.Goals as goal

pub returns : goal.returns
returns g c =
    let free : c.in_ok-taken.taken ≡ false = search rules in
    let text : string_bytes c.into_text.result ≡ child_key c.in-Some.above c.args.number =
    c.into_text.ensures ∙ c.in_ok-key.ensures.key in
    let parent = c.get-parent.ensures.value in
    c.make.ensures _ _ (stays_then g.S.Store _ _ _ c.in_ok-taken.ensures.asks.kept
    c.in_ok-above.ensures.asks.kept) (λ clean i s admitted.
    let before = c.in_ok-above.ensures.asks.kept.premise clean in
    let known = office_known c.in_ok-above.field-0 c.in-Some.above c.get-parent.result i c.in-Some.is
    (c.in_ok-above.ensures.value clean i (c.in_ok-taken.ensures.asks.kept.same before i s)) in
    let none = none_there (office_at c.args.number i.offices) (ap (is_there i.offices) (sym c.get.ensures.value)
    ∙ sym (c.in_ok-taken.ensures.value before i s) ∙ free) in (
      beside refl refl (refl, tt) (office_becomes c.args.number c.args.parent c.args.name c.in-Some.above i _ s.sound
          admitted.sound
          c.tree_of_offices.ensures none (ap (is_there i.offices) (sym parent) ∙ known.0)
          (known.1 ∙ ap (key_of (parent_of i.offices)) parent)
          (same_office _ _ _ _ _ _ _ _ c.get-2.ensures.value parent (c.new.ensures ∙ text) c.of_name.ensures)),
      office_tells c.args.number c.args.parent c.args.name i s.sound none,
    ))
