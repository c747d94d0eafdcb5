use Rattle.std.proofs.Common.{◌≡◌, drop}
use Rattle.mf_portions.specs.Table.{line_before}
use Rattle.mf_portions.proofs.table.line_before.Given as goal

abbrev pub invariant-loop-earlier : goal.invariant-loop-earlier
invariant-loop-earlier l = line_before (drop l.earlier-index l.before) l.line ≡ line_before l.before l.line
