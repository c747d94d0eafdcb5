use Rattle.mf_play.proofs.Lines.{one_play, one_place, apart}
use Rattle.mf_play.proofs.laws.play_is_one.Goals as goal

pub returns-clause-played : goal.returns-clause-played
returns-clause-played c = one_play

pub returns-clause-stopped : goal.returns-clause-stopped
returns-clause-stopped c = one_place

pub returns-clause-apart : goal.returns-clause-apart
returns-clause-apart c = apart
