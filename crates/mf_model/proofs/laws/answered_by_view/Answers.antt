use Rattle.mf_model.proofs.Views.{outcome_view}
use Rattle.mf_model.proofs.Runs.{caller_from}
use Rattle.mf_model.proofs.laws.answered_by_view.Goals as goal

pub returns-clause-office : goal.returns-clause-office
returns-clause-office c = λ o call i t from. outcome_view o call i t from

pub returns-clause-caller : goal.returns-clause-caller
returns-clause-caller c = λ caller call i t from. outcome_view caller.office call i t
    ((caller_from caller).own call from)
