use Rattle.std.proofs.Common.{◌≡◌}
use Rattle.mf_store_audit.specs.Unread.{numbers_in}
use Rattle.mf_store_audit.proofs.unread.numbers_of.Given as goal

abbrev pub invariant-loop-column : goal.invariant-loop-column
invariant-loop-column l = l.numbers.items ≡ numbers_in l.column l.row
