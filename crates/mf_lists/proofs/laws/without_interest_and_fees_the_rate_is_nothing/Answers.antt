use Rattle.mf_lists.proofs.RateLemmas.{nothing_for_as_much}
use Rattle.mf_lists.proofs.laws.without_interest_and_fees_the_rate_is_nothing.Goals as goal

pub returns : goal.returns
returns c = nothing_for_as_much
