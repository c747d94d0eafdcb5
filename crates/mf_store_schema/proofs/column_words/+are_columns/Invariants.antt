use Rattle.std.proofs.Common.{length}
use Rattle.mf_store_schema.proofs.column_words.+are_columns.Given as goal

abbrev pub decreases-are_columns : goal.decreases-are_columns
decreases-are_columns l = length l.found.now
