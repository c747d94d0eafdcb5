use Rattle.mf_model.specs.Run.{from_office, from_caller}
use Rattle.mf_model.proofs.Runs.{isolated_view, isolated_replies, office_from, caller_from}
use Rattle.mf_model.proofs.laws.isolation.Goals as goal

pub returns-clause-views : goal.returns-clause-views
returns-clause-views c = λ i ls t o. isolated_view o ls i t

pub returns-clause-replies : goal.returns-clause-replies
returns-clause-replies c = λ i ls t o. isolated_replies o (from_office o) (office_from o) ls i t

pub returns-clause-own_replies : goal.returns-clause-own_replies
returns-clause-own_replies c = λ i ls t caller. isolated_replies caller.office (from_caller caller) (caller_from caller)
    ls i t
