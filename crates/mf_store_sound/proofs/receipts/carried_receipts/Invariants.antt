use Rattle.std.proofs.Common.{◌≡◌, ◌++◌, drop}
use Rattle.mf_store_values.specs.ReceiptRows.{carried_by}
use Rattle.mf_store_sound.proofs.receipts.carried_receipts.Given as goal

abbrev pub invariant-loop-entry : goal.invariant-loop-entry
invariant-loop-entry l = l.rows.items ++ carried_by (drop l.entry-index l.entries) ≡ carried_by l.entries
