use Rattle.mf_journal.proofs.Noting.{notes}
use Rattle.mf_journal.proofs.laws.a_run_is_noted.Goals as goal

pub returns : goal.returns
returns c = λ i run. notes run i
