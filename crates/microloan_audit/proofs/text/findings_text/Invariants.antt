use Rattle.std.proofs.Common.{◌≡◌, take}
use Rattle.std.specs.Prelude.{string_bytes}
use Rattle.microloan_audit.specs.Text.{findings_text}
use Rattle.microloan_audit.proofs.text.findings_text.Given as goal

abbrev pub invariant-loop-finding : goal.invariant-loop-finding
invariant-loop-finding l = string_bytes l.text ≡ findings_text l.tables (take l.finding-index l.findings)
