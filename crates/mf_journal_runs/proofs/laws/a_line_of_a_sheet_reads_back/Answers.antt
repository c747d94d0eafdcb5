use Rattle.mf_journal_runs.proofs.Received.{repayment_reads_back, fields_received}
use Rattle.mf_journal_runs.proofs.laws.a_line_of_a_sheet_reads_back.Goals as goal

pub returns-clause-repayment : goal.returns-clause-repayment
returns-clause-repayment c = λ told r is. repayment_reads_back r is

pub returns-clause-line : goal.returns-clause-line
returns-clause-line c = λ told caller fields is. fields_received told caller is fields
