use Rattle.std.proofs.Common.{◌≡◌}
use Rattle.mf_wire.specs.Serving.{call_of_message, shown_response}
use Rattle.mf_wire.proofs.Alone.{isolated_call}
use Rattle.mf_wire.proofs.Ran.{IsolationLaw}
use Rattle.mf_wire.proofs.laws.one_message_is_isolated.Goals as goal

pub returns : goal.returns
returns g c =
    let s = g.S.InstitutionStore in
    let law : IsolationLaw = record {
      views = c.isolation.ensures.views;
      replies = c.isolation.ensures.replies;
      own_replies = c.isolation.ensures.own_replies;
    } in
    λ i told bytes text old new served clean stands.
    isolated_call s law (λ r. text ≡ shown_response served.to_head r) (call_of_message told served.message) old new i
    (g.met.S.InstitutionStore.sound old i stands).tree served.answered clean stands
