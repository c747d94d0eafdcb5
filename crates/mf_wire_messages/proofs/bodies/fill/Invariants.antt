use Rattle.std.proofs.Common.{◌≡◌, ◌≤◌, ◌-◌, length, take}
use Rattle.std.specs.Io.KnownBytes.{Consumes}
use Rattle.mf_wire_messages.proofs.bodies.fill.Given as goal

abbrev pub invariant-loop-size : goal.invariant-loop-size
invariant-loop-size g l = record {
  long : length l.room ≡ length l.initial.room;
  within : l.size ≤ length l.room;
  told : Consumes (g.R.Source.unread l.initial.source) (g.R.Source.unread l.source) (take l.size l.room);
  sound : g.R.Source.faults l.source ≡ g.R.Source.faults l.initial.source;
}

abbrev pub decreases-loop-size : goal.decreases-loop-size
decreases-loop-size g l = length l.initial.room - l.size
