use Rattle.mf_guarantees.proofs.ReachLemmas.{stays}
use Rattle.mf_guarantees.proofs.laws.offices_change_only_what_lies_below.Goals as goal

pub returns : goal.returns
returns c = λ o y i lines tree from there outside. stays o y lines i tree from there outside
