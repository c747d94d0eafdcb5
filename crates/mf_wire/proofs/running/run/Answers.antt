use Rattle.std.proofs.Common.{subst}
use Rattle.mf_wire_lines.specs.Ends.{Ends}
use Rattle.mf_wire_lines.specs.Streams.{stream_of, streams_of}
use Rattle.mf_wire.specs.Runs.{RunsLines}
use Rattle.mf_wire.proofs.Ran.{IsolationLaw, runs_lines}
use Rattle.mf_wire.proofs.Ending.{ends}
use Rattle.mf_wire.proofs.running.run.Goals as goal

pub returns-clause-ends : goal.returns-clause-ends
returns-clause-ends g c =
    let s = g.S.InstitutionStore in
    let law : IsolationLaw = record {
      views = c.isolation.ensures.views;
      replies = c.isolation.ensures.replies;
      own_replies = c.isolation.ensures.own_replies;
    } in
    let streams = streams_of (stream_of g.R.Source.unread g.R.Source.faults c.args.source.now c.run_lines.new.source)
    (stream_of g.W.Sink.written g.W.Sink.faults c.args.sink.now c.run_lines.new.sink) in
    let weaker = runs_lines s c.in-Ok.desk.told g.met.S.InstitutionStore.sound law in
    subst (λ told. Ends (RunsLines s told) c.args.store.now c.run_lines.new.state streams c.run_lines.result)
    c.in-Ok.ensures (ends _ _ weaker _ _ _ c.run_lines.result c.run_lines.ensures.ends)
