use Rattle.mf_wire.proofs.Agreeing.{runs_agree}
use Rattle.mf_wire.proofs.laws.two_runs_agree.Goals as goal

pub returns : goal.returns
returns g c = λ o i j told also lines texts others replies old new before after run other a. runs_agree o _ _
    run.isolated
    other.isolated a
