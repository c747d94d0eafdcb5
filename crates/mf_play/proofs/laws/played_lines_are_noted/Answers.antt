use Rattle.mf_play.proofs.Runs.{noted}
use Rattle.mf_play.proofs.laws.played_lines_are_noted.Goals as goal

pub returns : goal.returns
returns c = noted
