use Rattle.std.proofs.Common.{◌≡◌}
use Rattle.mf_model.specs.Tree.{view}
use Rattle.mf_wire.specs.Serving.{call_of_message, shown_response}
use Rattle.mf_wire.proofs.Alone.{isolated_call, as_message, same_response}
use Rattle.mf_wire.proofs.Ran.{IsolationLaw}
use Rattle.mf_wire.proofs.laws.two_messages_agree.Goals as goal

pub returns : goal.returns
returns g c =
    let s = g.S.InstitutionStore in
    let t = g.T.InstitutionStore in
    let law : IsolationLaw = record {
      views = c.isolation.ensures.views;
      replies = c.isolation.ensures.replies;
      own_replies = c.isolation.ensures.own_replies;
    } in
    λ caller i j told bytes text other old new before after one two clean stands clean_too stands_too e v m n.
    let call = call_of_message told one.message in
    let first = isolated_call s law (λ r. text ≡ shown_response one.to_head r) call old new i
    (g.met.S.InstitutionStore.sound old i stands).tree one.answered clean stands in
    let answered = as_message t told bytes other before after one.message one.to_head one.is two in
    let second = isolated_call t law (λ r. other ≡ shown_response one.to_head r) call before after j
    (g.met.T.InstitutionStore.sound before j stands_too).tree answered clean_too stands_too in
    same_response one.to_head first.given_up second.given_up call (view caller.office i) (view caller.office j) text
    other v (first.own caller e) (second.own caller e) m n
