use Rattle.std.proofs.Common.{◌≡◌, ◌++◌, take}
use Rattle.std.specs.Prelude.{string_bytes}
use Rattle.microloan_audit.specs.Unread.{key_text}
use Rattle.microloan_audit.proofs.unread.push_key.Given as goal

abbrev pub invariant-loop-number : goal.invariant-loop-number
invariant-loop-number l = string_bytes l.line ≡ string_bytes l.fn.line ++ key_text (take l.number-index l.key)
