use Rattle.mf_guarantees.proofs.MoneyLemmas.{accounted_after, apart_after}
use Rattle.mf_guarantees.proofs.laws.no_cent_is_made_or_lost.Goals as goal

pub returns-clause-accounted : goal.returns-clause-accounted
returns-clause-accounted c = λ i lines loan account sound in_range there.
    accounted_after lines i loan account sound in_range there

pub returns-clause-overpaid : goal.returns-clause-overpaid
returns-clause-overpaid c = λ i lines loan account sound in_range there some.
    apart_after lines i loan account sound in_range there some
