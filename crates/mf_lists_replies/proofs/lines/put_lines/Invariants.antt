use Rattle.std.proofs.Common.{◌≡◌, ◌++◌, false, map, take}
use Rattle.std.specs.Prelude.{string_bytes}
use Rattle.mf_wire_replies.proofs.Joined.{past}
use Rattle.mf_wire_replies.specs.Json.{joined_values}
use Rattle.mf_lists_replies.proofs.lines.put_lines.Given as goal

abbrev pub invariant-loop-line : goal.invariant-loop-line
invariant-loop-line g l =
    (l.later ≡ past false (map (g.T.ListLine.json l.place) (take l.line-index l.lines)))
    × (string_bytes l.text ≡ string_bytes l.initial.text
    ++ joined_values false (map (g.T.ListLine.json l.place) (take l.line-index l.lines)))
