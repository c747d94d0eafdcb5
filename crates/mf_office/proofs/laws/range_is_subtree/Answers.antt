use Rattle.mf_office.proofs.KeyLemmas.{range_below}
use Rattle.mf_office.proofs.laws.range_is_subtree.Goals as goal

pub returns : goal.returns
returns c = range_below
