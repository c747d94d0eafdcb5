use Rattle.std.proofs.Common.{◌≡◌, ◌≤◌, ◌^◌, ◌+◌, ◌-◌}
use Rattle.mf_wire_lines.proofs.Serving.{Going}
use Rattle.mf_wire_lines.proofs.lines.serve_lines.Given as goal

abbrev pub invariant-loop-taken : goal.invariant-loop-taken
invariant-loop-taken g l = record {
  counted : l.answered ≤ l.taken;
  bounded : l.taken ≤ 2 ^ 60 + 65536;
  told : Going (g.D.LineDesk.may_answer l.desk) l.initial.state l.state (g.R.Source.unread l.initial.source)
      (g.R.Source.unread l.source) l.held (g.W.Sink.written l.initial.sink) (g.W.Sink.written l.sink) l.answered
      l.taken;
  source_sound : g.R.Source.faults l.source ≡ g.R.Source.faults l.initial.source;
  sink_sound : g.W.Sink.faults l.sink ≡ g.W.Sink.faults l.initial.sink;
}

abbrev pub decreases-loop-taken : goal.decreases-loop-taken
decreases-loop-taken g l = 1152921504606846976 + 65536 - l.taken
