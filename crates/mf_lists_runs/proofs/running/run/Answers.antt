use Rattle.std.proofs.Common.{subst}
use Rattle.std.specs.Prelude.{is_some}
use Rattle.mf_wire_lines.specs.Ends.{Ends}
use Rattle.mf_wire_lines.specs.Streams.{stream_of, streams_of}
use Rattle.mf_wire.proofs.Ending.{ends}
use Rattle.mf_lists_runs.specs.Choice.{choice_if}
use Rattle.mf_lists_runs.specs.Runs.{ListsRuns}
use Rattle.mf_lists_runs.proofs.Ran.{lists_runs}
use Rattle.mf_lists_runs.proofs.running.run.Goals as goal

pub returns-clause-ends : goal.returns-clause-ends
returns-clause-ends g c =
    let s = g.S.InstitutionStore in
    let streams = streams_of (stream_of g.R.Source.unread g.R.Source.faults c.args.source.now c.run_lines.new.source)
    (stream_of g.W.Sink.written g.W.Sink.faults c.args.sink.now c.run_lines.new.sink) in
    let weaker = lists_runs s (choice_if g.L.Lists.folded (is_some c.in-Ok.desk.lists)) c.in-Ok.desk.desk.told
    g.met.S.InstitutionStore.sound in
    subst (λ told. Ends (ListsRuns s (choice_if g.L.Lists.folded (is_some c.args.lists)) told) c.args.store.now
    c.run_lines.new.state streams c.run_lines.result) c.in-Ok.ensures.0
    (subst (λ lists. Ends (ListsRuns s (choice_if g.L.Lists.folded (is_some lists)) c.in-Ok.desk.desk.told)
    c.args.store.now c.run_lines.new.state streams c.run_lines.result) c.in-Ok.ensures.1
    (ends _ _ weaker _ _ _ c.run_lines.result c.run_lines.ensures.ends))
