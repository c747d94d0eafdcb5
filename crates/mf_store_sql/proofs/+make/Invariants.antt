use Rattle.std.proofs.Common.{length}
use Rattle.mf_store_sql.proofs.+make.Given as goal

abbrev pub decreases-make : goal.decreases-make
decreases-make g l = length l.texts.now
