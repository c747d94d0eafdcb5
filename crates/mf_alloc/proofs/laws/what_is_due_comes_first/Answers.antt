use Rattle.mf_alloc.proofs.DueFirstLemmas.{due-comes_first}
use Rattle.mf_alloc.proofs.laws.what_is_due_comes_first.Goals as goal

pub returns : goal.returns
returns c = due-comes_first
