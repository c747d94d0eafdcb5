use Rattle.mf_play.proofs.Received.{lines_received}
use Rattle.mf_journal_runs.proofs.Growing.{run_grows}
use Rattle.mf_journal_runs.proofs.laws.a_run_is_journaled.Goals as goal

pub returns : goal.returns
returns g c = λ told i lines texts old new ran. run_grows ran.run i (lines_received told ran.run lines ran.calls)
