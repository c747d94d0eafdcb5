use Rattle.std.proofs.Common.{◌≡◌, ◌++◌, take}
use Rattle.std.specs.Prelude.{string_bytes}
use Rattle.microloan_audit.specs.Text.{suspects_text}
use Rattle.microloan_audit.proofs.text.push_suspects.Given as goal

abbrev pub invariant-loop-suspect : goal.invariant-loop-suspect
invariant-loop-suspect l =
    string_bytes l.text ≡ string_bytes l.initial.text ++ suspects_text l.tables (take l.suspect-index l.suspects)
