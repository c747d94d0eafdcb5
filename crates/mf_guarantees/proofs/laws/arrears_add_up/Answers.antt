use Rattle.mf_guarantees.proofs.ClassLemmas.{classes_add_up, par30-most}
use Rattle.mf_guarantees.proofs.laws.arrears_add_up.Goals as goal

pub returns-clause-classes : goal.returns-clause-classes
returns-clause-classes c = λ office loans. classes_add_up loans

pub returns-clause-at_most_all : goal.returns-clause-at_most_all
returns-clause-at_most_all c = par30-most
