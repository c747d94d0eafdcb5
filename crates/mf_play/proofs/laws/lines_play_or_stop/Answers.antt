use Rattle.mf_play.proofs.Lines.{either}
use Rattle.mf_play.proofs.laws.lines_play_or_stop.Goals as goal

pub returns : goal.returns
returns c = either
