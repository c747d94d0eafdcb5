use Rattle.std.proofs.Common.{take}
use Rattle.mf_store_journal.proofs.CheckLemmas.{SoFar}
use Rattle.mf_store_archived.specs.Archives.{AreShown}
use Rattle.mf_store_archived.proofs.checking.follow_rows.Given as goal

abbrev pub invariant-loop-place : goal.invariant-loop-place
invariant-loop-place l = SoFar l.fn.head l.rows l.place l.now × AreShown l.fn.head (take l.place l.rows) l.now
