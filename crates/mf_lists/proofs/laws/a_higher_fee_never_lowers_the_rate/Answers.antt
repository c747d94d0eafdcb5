use Rattle.mf_lists.proofs.RateLemmas.{fee-mono}
use Rattle.mf_lists.proofs.laws.a_higher_fee_never_lowers_the_rate.Goals as goal

pub returns : goal.returns
returns c = fee-mono
