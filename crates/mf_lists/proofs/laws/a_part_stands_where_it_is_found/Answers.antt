use Rattle.mf_lists.proofs.ListLemmas.{part-found, part-stands}
use Rattle.mf_lists.proofs.laws.a_part_stands_where_it_is_found.Goals as goal

pub returns-clause-found : goal.returns-clause-found
returns-clause-found c = part-found

pub returns-clause-stands : goal.returns-clause-stands
returns-clause-stands c = part-stands
