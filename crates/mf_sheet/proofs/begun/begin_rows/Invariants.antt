use Rattle.std.proofs.Common.{◌≡◌}
use Rattle.mf_sheet.proofs.begun.begin_rows.Given as goal

abbrev pub invariant-loop-row : goal.invariant-loop-row
invariant-loop-row l = l.begun.items ≡ l.yielded
