use Rattle.mf_play.proofs.PlayedLines.{HavePlayed}
use Rattle.mf_play.proofs.playing.play_lines.Given as goal

abbrev pub invariant-loop-place : goal.invariant-loop-place
invariant-loop-place g l = HavePlayed g.S.InstitutionStore l.rows l.place l.initial.store l.store
