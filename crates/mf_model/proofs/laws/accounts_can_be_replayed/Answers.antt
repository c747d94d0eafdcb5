use Rattle.mf_model.proofs.Lasting.{account_of_loan, first_status, loan_has_account}
use Rattle.mf_model.proofs.laws.accounts_can_be_replayed.Goals as goal

pub returns-clause-there : goal.returns-clause-there
returns-clause-there c = loan_has_account

pub returns-clause-sound : goal.returns-clause-sound
returns-clause-sound c = account_of_loan

pub returns-clause-first : goal.returns-clause-first
returns-clause-first c = first_status
