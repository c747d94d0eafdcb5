use Rattle.mf_store.specs.Stands.{StandsFor, IsClean, Leaves}
use Rattle.std.specs.Prelude.{is_some}
use Rattle.mf_folding.specs.Folding.{folded}
use Rattle.mf_lists_runs.specs.Choice.{choice_if}
use Rattle.sqlite.specs.Files.{over_files}
use Rattle.microloan_files.specs.Closing.{CloseAfter}
use Rattle.microloan_files.proofs.ServingLemmas.{served_good_before, serves_so}
use Rattle.microloan_files.proofs.ClosingLemmas.{close_after}
use Rattle.microloan_files.proofs.closing.serve_and_close.Goals as goal

pub returns-clause-premise : goal.returns-clause-premise
returns-clause-premise g c = λ well.
    served_good_before (record {
      stands = StandsFor over_files;
      clean = IsClean over_files;
      leaves = Leaves over_files;
    }) (choice_if folded (is_some c.args.lists)) c.args.told c.args.connections
    (g.N.Listener.ended c.args.listener.now) (g.N.Listener.ended c.serve_connections-ended.new.listener) c.args.store
    c.serve_connections-ended.new.store
    c.serve_connections-ended.result c.serve_connections-ended.ensures.served c.serve_connections-ended.ensures.memory
    (c.close.ensures.premise well)

pub returns-clause-ends : goal.returns-clause-ends
returns-clause-ends g c = λ well i stood leaves.
    let good = c.close.ensures.premise well in
    serves_so (choice_if folded (is_some c.args.lists)) c.args.told i
    (g.N.Listener.ended c.args.listener.now) (g.N.Listener.ended c.serve_connections-ended.new.listener)
    c.args.store c.serve_connections-ended.new.store
    (CloseAfter i c.close.result) stood leaves
    (λ run range stands after. close_after c.serve_connections-ended.new.store c.close.result c.close.ensures.left_whole
    c.close.ensures.kept well i run stands after)
    c.args.connections c.serve_connections-ended.result c.serve_connections-ended.ensures.served
    c.serve_connections-ended.ensures.memory c.serve_connections-ended.ensures.unheard
    (λ es answered. c.served_messages_are_isolated.ensures (choice_if folded (is_some c.args.lists)) i c.args.told es
    c.args.store
    c.serve_connections-ended.new.store answered
    good stood)
