use Rattle.std.proofs.Common.{◌≡◌, map, take}
use Rattle.serde_json.specs.View.{view}
use Rattle.mf_wire_replies.proofs.showing.lists.array_of.Given as goal

abbrev pub invariant-loop-line : goal.invariant-loop-line
invariant-loop-line g l = map view l.values.items ≡ map g.T.Shown.json (take l.line-index l.lines)
