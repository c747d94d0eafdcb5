use Rattle.mf_guarantees.proofs.BranchLemmas.{line_of_all_parts, line_of_all_loans}
use Rattle.mf_guarantees.proofs.laws.a_parents_arrears_are_its_own_and_its_childrens.Goals as goal

pub returns-clause-parts : goal.returns-clause-parts
returns-clause-parts c = λ i x own tree there. line_of_all_parts i x own tree there

pub returns-clause-loans : goal.returns-clause-loans
returns-clause-loans c = line_of_all_loans
