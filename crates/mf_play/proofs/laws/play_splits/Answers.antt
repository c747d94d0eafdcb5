use Rattle.mf_play.proofs.Lines.{joined, parted}
use Rattle.mf_play.proofs.laws.play_splits.Goals as goal

pub returns-clause-at_once : goal.returns-clause-at_once
returns-clause-at_once c = joined

pub returns-clause-in_parts : goal.returns-clause-in_parts
returns-clause-in_parts c = parted
