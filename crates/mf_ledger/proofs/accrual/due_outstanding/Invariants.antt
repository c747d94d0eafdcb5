use Rattle.std.proofs.Common.{◌≡◌, ◌+◌, drop}
use Rattle.mf_alloc.specs.Rows.{place_in_row}
use Rattle.mf_ledger.specs.Accrual.{due_open}
use Rattle.mf_ledger.proofs.accrual.due_outstanding.Given as goal

abbrev pub invariant-loop-row : goal.invariant-loop-row
invariant-loop-row l =
    l.due + due_open l.day (drop l.row-index l.rows) (place_in_row l.portion)
    ≡ due_open l.day l.rows (place_in_row l.portion)
