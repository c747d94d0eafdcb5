use Rattle.mf_model.specs.Run.{from_office, from_caller}
use Rattle.mf_model.proofs.Runs.{all_replies, office_from, caller_from}
use Rattle.mf_model.proofs.laws.isolation_with_memory.Goals as goal

pub returns-clause-replies : goal.returns-clause-replies
returns-clause-replies c = λ i ls t none o. all_replies o (from_office o) (office_from o) ls i t none

pub returns-clause-own_replies : goal.returns-clause-own_replies
returns-clause-own_replies c = λ i ls t none caller. all_replies caller.office (from_caller caller) (caller_from caller)
    ls i t none
