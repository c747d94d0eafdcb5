use Rattle.std.proofs.Common.{ℕ, ◌<◌}
use Rattle.sqlite.specs.Order.{column}
use Rattle.mf_store_audit.specs.Unread.{IsBadText}
use Rattle.mf_store_audit.proofs.unread.has_bad_text.Given as goal

abbrev pub invariant-loop-column : goal.invariant-loop-column
invariant-loop-column l = (k : ℕ) → k < l.column → ¬ IsBadText (column l.row k)
