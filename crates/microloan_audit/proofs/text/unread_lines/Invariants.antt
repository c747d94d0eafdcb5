use Rattle.std.proofs.Common.{◌≡◌, take}
use Rattle.std.specs.Prelude.{string_bytes}
use Rattle.microloan_audit.specs.Text.{unread_lines}
use Rattle.microloan_audit.proofs.text.unread_lines.Given as goal

abbrev pub invariant-loop-row : goal.invariant-loop-row
invariant-loop-row l = string_bytes l.text ≡ unread_lines (take l.row-index l.unread)
