use Rattle.std.proofs.Common.{◌≡◌, take}
use Rattle.std.specs.Prelude.{sum_by}
use Rattle.mf_alloc.specs.Sums.{row_outstanding}
use Rattle.mf_store_lists.proofs.loans.left_of.Given as goal

abbrev pub invariant-loop-row : goal.invariant-loop-row
invariant-loop-row l = l.left ≡ sum_by row_outstanding (take l.row-index l.rows)
