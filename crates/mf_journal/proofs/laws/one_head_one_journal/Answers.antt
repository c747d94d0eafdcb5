use Rattle.mf_journal.proofs.FollowingLemmas.{one_head}
use Rattle.mf_journal.proofs.laws.one_head_one_journal.Goals as goal

pub returns : goal.returns
returns c = one_head
