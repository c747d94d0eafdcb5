use Rattle.mf_store_journal.proofs.CheckLemmas.{SoFar}
use Rattle.mf_store_journal.proofs.checking.follow_rows.Given as goal

abbrev pub invariant-loop-place : goal.invariant-loop-place
invariant-loop-place l = SoFar l.fn.head l.rows l.place l.now
