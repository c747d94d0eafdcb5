use Rattle.std.proofs.Common.{◌≡◌, []}
use Rattle.mf_statement.specs.Parts.{table}
use Rattle.mf_statement.proofs.entries.without_parts.Given as goal

abbrev pub invariant-loop : goal.invariant-loop
invariant-loop l = l.all.items ≡ table [] l.counter
