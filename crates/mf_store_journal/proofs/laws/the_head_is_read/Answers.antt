use Rattle.mf_store_journal.proofs.StandingLemmas.{stands_after}
use Rattle.mf_store_journal.proofs.laws.the_head_is_read.Goals as goal

pub returns : goal.returns
returns c = stands_after
