use Rattle.mf_store_audit.proofs.EntryFlawLemmas.{one_loan}
use Rattle.mf_store_audit.proofs.entries.loan_of.Goals as goal

pub returns-clause-only : goal.returns-clause-only
returns-clause-only c up loan there own =
    one_loan c.args.row.now c.args.loans.now c.row_at.result loan c.row_at.ensures.found c.row_at.ensures.none up there
    own
