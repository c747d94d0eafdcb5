use Rattle.mf_store_schema.proofs.LawLemmas.{upgrades_first}
use Rattle.mf_store_schema.proofs.laws.upgrades_first.Goals as goal

pub returns : goal.returns
returns c = upgrades_first
