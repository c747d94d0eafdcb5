use Rattle.mf_model.proofs.SoundLemmas.{sound_tree}
use Rattle.mf_model.proofs.laws.tree_of_offices.Goals as goal

pub returns : goal.returns
returns c = sound_tree
