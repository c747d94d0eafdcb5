use Rattle.mf_lists_runs.proofs.Served.{serves_on}
use Rattle.mf_lists_runs.proofs.laws.served_messages_are_isolated.Goals as goal

pub returns : goal.returns
returns g c = λ choice i told exchanges old new answered clean stands.
    serves_on g.S.InstitutionStore choice told old exchanges new i
    (g.met.S.InstitutionStore.sound old i stands).tree answered clean stands
