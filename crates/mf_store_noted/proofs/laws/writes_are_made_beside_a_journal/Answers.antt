use Rattle.mf_store_noted.proofs.BesideLemmas.{becomes_beside}
use Rattle.mf_store_noted.proofs.laws.writes_are_made_beside_a_journal.Goals as goal

pub returns : goal.returns
returns c = becomes_beside
