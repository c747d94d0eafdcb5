use Rattle.mf_guarantees.proofs.MoreLemmas.{no_more_left}
use Rattle.mf_guarantees.proofs.laws.who_pays_more_has_no_more_left.Goals as goal

pub returns : goal.returns
returns c = λ loan entries cell sound other each is. no_more_left loan entries cell sound other each is
