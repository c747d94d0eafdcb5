use Rattle.std.proofs.Common.{◌≡◌, ap, ◌∙◌, subst}
use Rattle.mf_model.specs.Calls.{Call}
use Rattle.mf_model.specs.Desk.{reply}
use Rattle.mf_wire.specs.OneCall.{or_given_up}
use Rattle.mf_model.specs.Tree.{view}
use Rattle.mf_wire_replies.specs.Shown.{IsReplyText}
use Rattle.mf_wire.specs.Serving.{call_of_message, shown_response}
use Rattle.mf_wire.proofs.Alone.{isolated_call, same_text}
use Rattle.mf_wire.proofs.Ran.{IsolationLaw}
use Rattle.mf_wire.proofs.laws.messages_and_texts_agree.Goals as goal

pub returns : goal.returns
returns g c =
    let s = g.S.InstitutionStore in
    let t = g.T.InstitutionStore in
    let law : IsolationLaw = record {
      views = c.isolation.ensures.views;
      replies = c.isolation.ensures.replies;
      own_replies = c.isolation.ensures.own_replies;
    } in
    λ caller i j told bytes text call old new before after one two same clean stands clean_too stands_too e v m n.
    let asked = call_of_message told one.message in
    let sender : call.caller ≡ asked.caller = ap (λ (k : Call). k.caller) same in
    let first = isolated_call s law (λ r. text ≡ shown_response one.to_head r) asked old new i
    (g.met.S.InstitutionStore.sound old i stands).tree one.answered clean stands in
    let second = isolated_call t law (IsReplyText c.args.answered.now) call before after j
    (g.met.T.InstitutionStore.sound
    before j stands_too).tree two clean_too stands_too in
    let replied : reply call (view caller.office j) ≡ reply asked (view caller.office j) =
    ap (λ (k : Call). reply k (view caller.office j)) same in
    same_text one.to_head first.given_up second.given_up asked (view caller.office i) (view caller.office j) text
    c.args.answered.now v (first.own caller e)
    (subst (λ r. IsReplyText c.args.answered.now (or_given_up second.given_up r)) replied
    (second.own caller (sender ∙ e))) m n
