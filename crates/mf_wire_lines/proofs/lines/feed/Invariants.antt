use Rattle.std.proofs.Common.{◌≡◌, ℕ, ◌≤◌, List, take}
use Rattle.mf_wire_lines.specs.Reading.{ended_from, begun_from}
use Rattle.mf_wire_lines.specs.Run.{Run, Answered}
use Rattle.mf_wire_lines.proofs.lines.feed.Given as goal

abbrev pub invariant-loop-byte : goal.invariant-loop-byte
invariant-loop-byte g l = record {
  counted : l.answered ≤ l.byte-index;
  sink_sound : g.W.Sink.faults l.sink ≡ g.W.Sink.faults l.initial.sink;
  told : (begun : List ℕ) → l.initial.held ≡ take 65538 begun →
      (l.held ≡ take 65538 (begun_from begun (take l.byte-index l.piece)))
      × Answered (Run (g.D.LineDesk.may_answer l.desk)) l.initial.state l.state (ended_from begun
      (take l.byte-index l.piece)) (g.W.Sink.written l.initial.sink) (g.W.Sink.written l.sink) l.answered;
}
