use Rattle.mf_guarantees.proofs.MoneyLemmas.{within_after}
use Rattle.mf_guarantees.proofs.laws.nobody_pays_more_than_is_owed.Goals as goal

pub returns : goal.returns
returns c = λ i lines loan account sound in_range there. within_after lines i loan account sound in_range there
