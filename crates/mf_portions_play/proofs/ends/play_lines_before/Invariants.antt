use Rattle.mf_portions_play.proofs.EndsLemmas.{HaveEnded}
use Rattle.mf_portions_play.proofs.ends.play_lines_before.Given as goal

abbrev pub invariant-loop-place : goal.invariant-loop-place
invariant-loop-place g l = HaveEnded g.S.InstitutionStore l.until l.rows l.place l.initial.store l.store
