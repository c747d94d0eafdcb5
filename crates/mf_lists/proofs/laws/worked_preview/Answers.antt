use Rattle.mf_lists.proofs.WorkedLemmas.{worked-shown}
use Rattle.mf_lists.proofs.laws.worked_preview.Goals as goal

pub returns-clause-shown : goal.returns-clause-shown
returns-clause-shown c = worked-shown
