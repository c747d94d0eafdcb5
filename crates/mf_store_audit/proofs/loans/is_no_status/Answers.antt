use Rattle.mf_store_audit.proofs.LoanFlawLemmas.{status_there}
use Rattle.mf_store_audit.proofs.loans.is_no_status.Goals as goal

pub returns-in-100 : goal.returns-in-100
returns-in-100 c = status_there c.args.number c.in-100.is
