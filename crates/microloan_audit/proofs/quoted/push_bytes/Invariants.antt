use Rattle.std.proofs.Common.{◌≡◌, ◌++◌, take}
use Rattle.std.specs.Prelude.{string_bytes}
use Rattle.std.specs.List.{flat_map}
use Rattle.microloan_audit.specs.Quoted.{two_hex}
use Rattle.microloan_audit.proofs.quoted.push_bytes.Given as goal

abbrev pub invariant-loop-byte : goal.invariant-loop-byte
invariant-loop-byte l =
    string_bytes l.words ≡ string_bytes l.fn.words ++ flat_map two_hex (take l.byte-index l.bytes)
