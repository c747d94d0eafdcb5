use Rattle.std.proofs.Common.{rules}
use Rattle.mf_store_schema.proofs.RowLemmas.{row_is}
use Rattle.mf_store_journal.proofs.rows.kept_row.Goals as goal

pub returns-clause-row : goal.returns-clause-row
returns-clause-row c = row_is c.args.row.now _ (search rules) (search rules)
