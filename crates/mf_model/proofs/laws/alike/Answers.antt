use Rattle.mf_model.specs.Run.{from_office, from_caller}
use Rattle.mf_model.proofs.Runs.{alike_views, alike_all_replies, office_from, caller_from}
use Rattle.mf_model.proofs.laws.alike.Goals as goal

pub returns-clause-views : goal.returns-clause-views
returns-clause-views c = alike_views

pub returns-clause-replies : goal.returns-clause-replies
returns-clause-replies c = λ o. alike_all_replies o (from_office o) (office_from o)

pub returns-clause-own_replies : goal.returns-clause-own_replies
returns-clause-own_replies c = λ caller. alike_all_replies caller.office (from_caller caller) (caller_from caller)
