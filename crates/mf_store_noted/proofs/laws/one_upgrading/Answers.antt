use Rattle.mf_store_noted.proofs.OneTextLemmas.{one_upgrading}
use Rattle.mf_store_noted.proofs.laws.one_upgrading.Goals as goal

pub returns : goal.returns
returns c = one_upgrading
