use Rattle.mf_model.proofs.Runs.{answers-push, last-push, left_after-push}
use Rattle.mf_model.proofs.laws.longer_run.Goals as goal

pub returns-clause-answers : goal.returns-clause-answers
returns-clause-answers c = answers-push

pub returns-clause-last : goal.returns-clause-last
returns-clause-last c = last-push

pub returns-clause-left : goal.returns-clause-left
returns-clause-left c = left_after-push
