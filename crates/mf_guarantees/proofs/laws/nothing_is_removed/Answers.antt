use Rattle.mf_guarantees.proofs.RequestLemmas.{run_keeps}
use Rattle.mf_guarantees.proofs.laws.nothing_is_removed.Goals as goal

pub returns : goal.returns
returns c = λ i lines tree. run_keeps lines i tree
