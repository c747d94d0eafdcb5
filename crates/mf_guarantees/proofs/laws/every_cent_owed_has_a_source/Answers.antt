use Rattle.mf_guarantees.proofs.MoneyLemmas.{sources_after}
use Rattle.mf_guarantees.proofs.laws.every_cent_owed_has_a_source.Goals as goal

pub returns : goal.returns
returns c = λ i lines loan account sound in_range there. sources_after lines i loan account sound in_range there
