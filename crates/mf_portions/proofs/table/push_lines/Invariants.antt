use Rattle.std.proofs.Common.{◌≡◌, ◌++◌, drop}
use Rattle.mf_portions.specs.Table.{lines_text}
use Rattle.mf_portions.proofs.table.push_lines.Given as goal

abbrev pub invariant-loop-line : goal.invariant-loop-line
invariant-loop-line l =
    l.text.items ++ lines_text l.before (drop l.line-index l.lines)
    ≡ l.initial.text.items ++ lines_text l.before l.lines
