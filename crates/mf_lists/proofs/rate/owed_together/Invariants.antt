use Rattle.std.proofs.Common.{◌≡◌, take}
use Rattle.mf_schedule.specs.Fresh.{total_owed}
use Rattle.mf_lists.proofs.rate.owed_together.Given as goal

abbrev pub invariant-loop-row : goal.invariant-loop-row
invariant-loop-row l = l.owed ≡ total_owed (take l.row-index l.rows)
