use Rattle.mf_model.proofs.Runs.{IsTree_last}
use Rattle.mf_model.proofs.SoundLemmas.{new_sound, accepted_sound, last_sound}
use Rattle.mf_model.proofs.laws.soundness.Goals as goal

pub returns-clause-first : goal.returns-clause-first
returns-clause-first c = new_sound

pub returns-clause-accepted : goal.returns-clause-accepted
returns-clause-accepted c = accepted_sound

pub returns-clause-run : goal.returns-clause-run
returns-clause-run c = λ i ls s r. last_sound ls i s r

pub returns-clause-tree : goal.returns-clause-tree
returns-clause-tree c = λ i ls t. IsTree_last ls i t
