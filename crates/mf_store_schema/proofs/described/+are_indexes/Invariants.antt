use Rattle.std.proofs.Common.{length}
use Rattle.mf_store_schema.proofs.described.+are_indexes.Given as goal

abbrev pub decreases-are_indexes : goal.decreases-are_indexes
decreases-are_indexes l = length l.found.now
