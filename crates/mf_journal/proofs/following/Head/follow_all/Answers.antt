use Rattle.std.proofs.lemmas.Option.{slice_get-get_or}
use Rattle.mf_journal.proofs.FollowingLemmas.{one_more_to, broken_there}
use Rattle.mf_journal.proofs.following.Head.follow_all.Goals as goal

pub loop-place-preserved : goal.loop-place-preserved
loop-place-preserved c =
    one_more_to _ _ _ _ _ _ (slice_get-get_or _ c.loop-place.place _ c.loop-place-test.true) c.loop-place.invariant
    c.in-Ok.ensures.follows.0 c.in-Ok.ensures.follows.1

pub returns-in-Err-clause-broken : goal.returns-in-Err-clause-broken
returns-in-Err-clause-broken c =
    broken_there _ _ _ _ _ _ (slice_get-get_or _ c.loop-place.place _ c.loop-place-test.true) c.loop-place.invariant
    c.in-Err.ensures.breaks
