use Rattle.mf_model.proofs.FewLemmas.{arrears_few, told_few}
use Rattle.mf_model.proofs.laws.arrears_can_be_summed.Goals as goal

pub returns-clause-seen : goal.returns-clause-seen
returns-clause-seen c = arrears_few

pub returns-clause-told : goal.returns-clause-told
returns-clause-told c = told_few
