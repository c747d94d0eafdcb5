use Rattle.std.proofs.Common.{◌≡◌, take}
use Rattle.mf_statement.specs.Lines.{instalments_from}
use Rattle.mf_statement.proofs.instalments.lines_of.Given as goal

abbrev pub invariant-loop-place : goal.invariant-loop-place
invariant-loop-place l = l.lines.items ≡ instalments_from 1 (take l.place l.rows)
