use Rattle.std.proofs.Common.{length}
use Rattle.mf_store_schema.proofs.described.+are_tables.Given as goal

abbrev pub decreases-are_tables : goal.decreases-are_tables
decreases-are_tables l = length l.found.now
