use Rattle.std.proofs.Common.{length}
use Rattle.mf_store_schema.proofs.rule_words.+are_keys.Given as goal

abbrev pub decreases-are_keys : goal.decreases-are_keys
decreases-are_keys l = length l.found.now
