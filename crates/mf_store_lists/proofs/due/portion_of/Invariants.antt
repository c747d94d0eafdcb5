use Rattle.std.proofs.Common.{◌≡◌, take}
use Rattle.std.specs.Prelude.{sum_by}
use Rattle.mf_alloc.specs.Rows.{place_in_row}
use Rattle.mf_store_lists.specs.Due.{due_of_row}
use Rattle.mf_store_lists.proofs.due.portion_of.Given as goal

abbrev pub invariant-loop-row : goal.invariant-loop-row
invariant-loop-row l = l.due ≡ sum_by (due_of_row (place_in_row l.portion) l.day) (take l.row-index l.rows)
