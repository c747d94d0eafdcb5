use Rattle.std.proofs.Common.{length}
use Rattle.mf_store_archived.proofs.joining.+last_before.Given as goal

abbrev pub decreases-last_before : goal.decreases-last_before
decreases-last_before l = length l.archives.now
