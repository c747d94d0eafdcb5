use Rattle.mf_journal.proofs.Noting.{notes}
use Rattle.mf_play.proofs.Runs.{run_plays}
use Rattle.mf_play.proofs.laws.what_a_run_notes_plays.Goals as goal

pub returns-clause-plays : goal.returns-clause-plays
returns-clause-plays c = λ i run are. run_plays run i are

pub returns-clause-noted : goal.returns-clause-noted
returns-clause-noted c = λ i run. notes run i
