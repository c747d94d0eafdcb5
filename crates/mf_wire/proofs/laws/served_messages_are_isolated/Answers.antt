use Rattle.mf_wire.proofs.Ran.{IsolationLaw}
use Rattle.mf_wire.proofs.Served.{serves_on}
use Rattle.mf_wire.proofs.laws.served_messages_are_isolated.Goals as goal

pub returns : goal.returns
returns g c =
    let s = g.S.InstitutionStore in
    let law : IsolationLaw = record {
      views = c.isolation.ensures.views;
      replies = c.isolation.ensures.replies;
      own_replies = c.isolation.ensures.own_replies;
    } in
    λ i told exchanges old new answered clean stands.
    serves_on s told law old exchanges new i (g.met.S.InstitutionStore.sound old i stands).tree answered clean stands
