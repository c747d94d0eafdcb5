use Rattle.mf_model.proofs.Unseen.{unseen_alike, unseen_refused}
use Rattle.mf_model.proofs.laws.hidden_is_missing.Goals as goal

pub returns-clause-same : goal.returns-clause-same
returns-clause-same c = λ asked a b caller r s i u v. unseen_alike asked a b caller r s i u v

pub returns-clause-refusal : goal.returns-clause-refusal
returns-clause-refusal c = λ asked a caller r s i u known may. unseen_refused asked a caller r s i u known may
