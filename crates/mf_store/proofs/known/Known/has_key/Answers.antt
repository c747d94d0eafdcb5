use Rattle.std.proofs.Common.{refl}
use Rattle.mf_store.proofs.KeptLemmas.{key_there}
use Rattle.mf_store.proofs.known.Known.has_key.Goals as goal

pub returns : goal.returns
returns c = rw (← c.self.view_is) (λ i known. rw c.contains.ensures (key_there _ i c.args.office _ known refl))
