use Rattle.mf_journal_runs.proofs.Growing.{one_institution}
use Rattle.mf_journal_runs.proofs.laws.one_journal_one_institution.Goals as goal

pub returns : goal.returns
returns c = one_institution
