use Rattle.mf_office.proofs.DepthLemmas.{grows_exactly}
use Rattle.mf_office.proofs.laws.tree_by_its_keys.Goals as goal

pub returns : goal.returns
returns c = grows_exactly
