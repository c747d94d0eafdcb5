use Rattle.mf_guarantees.proofs.PartLemmas.{principal_near, flat_near}
use Rattle.mf_guarantees.proofs.laws.equal_parts_differ_by_at_most_a_cent.Goals as goal

pub returns-clause-principal : goal.returns-clause-principal
returns-clause-principal c = λ terms principal n day i j apart one other.
    principal_near terms.method terms principal n i j apart one other

pub returns-clause-flat_interest : goal.returns-clause-flat_interest
returns-clause-flat_interest c = flat_near
