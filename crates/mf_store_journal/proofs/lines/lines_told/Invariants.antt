use Rattle.mf_store_journal.proofs.PageLemmas.{ToldSoFar}
use Rattle.mf_store_journal.proofs.lines.lines_told.Given as goal

abbrev pub invariant-loop-place : goal.invariant-loop-place
invariant-loop-place l = ToldSoFar l.rows l.place l.told.items
