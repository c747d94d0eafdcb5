use Rattle.mf_guarantees.proofs.SumLemmas.{office_accounted, all_accounted}
use Rattle.mf_guarantees.proofs.laws.no_office_makes_or_loses_a_cent.Goals as goal

pub returns-clause-office : goal.returns-clause-office
returns-clause-office c = λ i lines x office sound in_range there.
    office_accounted lines i x office sound in_range there

pub returns-clause-all : goal.returns-clause-all
returns-clause-all c = λ i lines sound in_range. all_accounted lines i sound in_range
