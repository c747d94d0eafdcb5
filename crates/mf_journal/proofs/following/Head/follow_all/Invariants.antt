use Rattle.mf_journal.proofs.FollowingLemmas.{FollowTo}
use Rattle.mf_journal.proofs.following.Head.follow_all.Given as goal

abbrev pub invariant-loop-place : goal.invariant-loop-place
invariant-loop-place l = FollowTo l.fn.self l.rows l.place l.head
