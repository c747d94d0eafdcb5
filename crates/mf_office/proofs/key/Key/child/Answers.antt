use Rattle.mf_office.proofs.TextLemmas.{child_ends}
use Rattle.mf_office.proofs.key.Key.child.Goals as goal

pub invariant_of-result : goal.invariant_of-result
invariant_of-result c = child_ends _ _ _ c.in_ok-text.ensures.text
