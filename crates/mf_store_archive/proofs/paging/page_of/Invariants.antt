use Rattle.mf_store_archive.proofs.PagingLemmas.{SoFar}
use Rattle.mf_store_archive.proofs.paging.page_of.Given as goal

abbrev pub invariant-loop-place : goal.invariant-loop-place
invariant-loop-place l = SoFar l.fn.day l.fn.head l.rows l.place l.now l.writes.items
