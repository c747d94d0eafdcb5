use Rattle.mf_lists.proofs.RateLemmas.{none_for_nothing}
use Rattle.mf_lists.proofs.laws.for_nothing_there_is_no_rate.Goals as goal

pub returns : goal.returns
returns c = none_for_nothing
