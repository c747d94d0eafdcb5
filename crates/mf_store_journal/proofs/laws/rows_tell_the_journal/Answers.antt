use Rattle.mf_store_journal.proofs.RowsLemmas.{one_journal}
use Rattle.mf_store_journal.proofs.laws.rows_tell_the_journal.Goals as goal

pub returns : goal.returns
returns c = one_journal
