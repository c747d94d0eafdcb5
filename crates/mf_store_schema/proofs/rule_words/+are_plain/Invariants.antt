use Rattle.std.proofs.Common.{length}
use Rattle.mf_store_schema.proofs.rule_words.+are_plain.Given as goal

abbrev pub decreases-are_plain : goal.decreases-are_plain
decreases-are_plain l = length l.found.now
