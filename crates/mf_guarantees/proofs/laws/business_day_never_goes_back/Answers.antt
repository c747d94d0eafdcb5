use Rattle.mf_guarantees.proofs.RequestLemmas.{run_keeps}
use Rattle.mf_guarantees.proofs.laws.business_day_never_goes_back.Goals as goal

pub returns : goal.returns
returns c = λ i lines tree. (run_keeps lines i tree).catalogue.day
