use Rattle.mf_store_audit.proofs.ToldLemmas.{AreSoFar}
use Rattle.mf_store_audit.proofs.unread.add_told.Given as goal

abbrev pub invariant-loop-place : goal.invariant-loop-place
invariant-loop-place g l =
    AreSoFar g.T.NamedTable.name l.rows l.all l.initial.unread.items l.unread.items l.place
