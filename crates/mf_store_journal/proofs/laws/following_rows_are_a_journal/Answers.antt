use Rattle.mf_store_journal.proofs.RowsLemmas.{follow_rows}
use Rattle.mf_store_journal.proofs.laws.following_rows_are_a_journal.Goals as goal

pub returns-clause-rows : goal.returns-clause-rows
returns-clause-rows c h ks on = (follow_rows h ks on).0

pub returns-clause-head : goal.returns-clause-head
returns-clause-head c h ks on = (follow_rows h ks on).1
