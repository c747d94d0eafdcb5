use Rattle.mf_play.proofs.Runs.{run_of}
use Rattle.mf_play.proofs.laws.what_plays_a_run_notes.Goals as goal

pub returns : goal.returns
returns c = run_of
