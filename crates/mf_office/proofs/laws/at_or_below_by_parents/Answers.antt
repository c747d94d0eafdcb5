use Rattle.mf_office.proofs.TreeLemmas.{below_by_parent, below_unbounded}
use Rattle.mf_office.proofs.laws.at_or_below_by_parents.Goals as goal

pub returns-clause-sentence : goal.returns-clause-sentence
returns-clause-sentence c = below_by_parent

pub returns-clause-unbounded : goal.returns-clause-unbounded
returns-clause-unbounded c = below_unbounded
