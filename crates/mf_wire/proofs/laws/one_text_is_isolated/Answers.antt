use Rattle.mf_wire_replies.specs.Shown.{IsReplyText}
use Rattle.mf_wire.proofs.Alone.{isolated_call}
use Rattle.mf_wire.proofs.Ran.{IsolationLaw}
use Rattle.mf_wire.proofs.laws.one_text_is_isolated.Goals as goal

pub returns : goal.returns
returns g c =
    let s = g.S.InstitutionStore in
    let law : IsolationLaw = record {
      views = c.isolation.ensures.views;
      replies = c.isolation.ensures.replies;
      own_replies = c.isolation.ensures.own_replies;
    } in
    λ i call old new answered clean stands.
    isolated_call s law (IsReplyText c.args.answered.now) call old new i
    (g.met.S.InstitutionStore.sound old i stands).tree
    answered clean stands
