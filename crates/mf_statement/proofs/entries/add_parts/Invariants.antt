use Rattle.std.proofs.Common.{◌≡◌, length, take}
use Rattle.mf_statement.specs.Parts.{table}
use Rattle.mf_statement.proofs.entries.add_parts.Given as goal

abbrev pub invariant-loop-part : goal.invariant-loop-part
invariant-loop-part l = l.all ≡ table (take l.part-index l.parts) (length l.fn.all)
