use Rattle.mf_play.proofs.TellingLemmas.{TellSoFar}
use Rattle.mf_play.proofs.told.first_untold.Given as goal

abbrev pub invariant-loop-place : goal.invariant-loop-place
invariant-loop-place l = TellSoFar l.rows l.place
