use Rattle.mf_store_archive.proofs.ArchivedLemmas.{heads_compose}
use Rattle.mf_store_archive.proofs.laws.heads_compose.Goals as goal

pub returns : goal.returns
returns c = heads_compose
