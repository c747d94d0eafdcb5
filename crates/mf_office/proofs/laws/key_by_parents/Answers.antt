use Rattle.mf_office.proofs.KeyLemmas.{key_of-head, key_of-child, key_of-ends, key_of-apart}
use Rattle.mf_office.proofs.laws.key_by_parents.Goals as goal

pub returns-clause-head : goal.returns-clause-head
returns-clause-head c = key_of-head

pub returns-clause-child : goal.returns-clause-child
returns-clause-child c = key_of-child

pub returns-clause-dot : goal.returns-clause-dot
returns-clause-dot c = key_of-ends

pub returns-clause-apart : goal.returns-clause-apart
returns-clause-apart c = key_of-apart
