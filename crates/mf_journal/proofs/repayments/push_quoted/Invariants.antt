use Rattle.std.proofs.Common.{◌≡◌, ◌++◌, drop}
use Rattle.mf_model.specs.Notes.{quoted_bytes}
use Rattle.mf_journal.proofs.repayments.push_quoted.Given as goal

abbrev pub invariant-loop-byte : goal.invariant-loop-byte
invariant-loop-byte l =
    l.text.items ++ quoted_bytes (drop l.byte-index l.bytes) ≡ l.initial.text.items ++ quoted_bytes l.bytes
