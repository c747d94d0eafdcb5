use Rattle.mf_store.proofs.OneInstitution.{one_institution}
use Rattle.mf_store.proofs.laws.one_institution.Goals as goal

pub returns : goal.returns
returns c = one_institution c.texts_of_days.ensures.apart
