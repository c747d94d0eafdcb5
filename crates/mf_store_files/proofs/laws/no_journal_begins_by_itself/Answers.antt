use Rattle.mf_store_files.proofs.StopLemmas.{no_journal_begins}
use Rattle.mf_store_files.proofs.laws.no_journal_begins_by_itself.Goals as goal

pub returns : goal.returns
returns c = no_journal_begins
