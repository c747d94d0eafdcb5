use Rattle.std.proofs.Common.{subst}
use Rattle.mf_store.specs.Stands.{StandsFor, IsClean, Leaves}
use Rattle.mf_store_noted.specs.Tabled.{HasGoodDisk}
use Rattle.std.specs.Prelude.{is_some}
use Rattle.mf_folding.specs.Folding.{folded}
use Rattle.mf_lists_runs.specs.Choice.{choice_if}
use Rattle.mf_lists_runs.specs.Runs.{ListsRuns}
use Rattle.sqlite.specs.Files.{over_files}
use Rattle.microloan_files.specs.Closing.{CloseAfter}
use Rattle.microloan_files.proofs.BeginningLemmas.{either_way, listed_run_so}
use Rattle.microloan_files.proofs.ClosingLemmas.{close_after}
use Rattle.microloan_files.proofs.closing.run_and_close.Goals as goal

pub returns-clause-premise : goal.returns-clause-premise
returns-clause-premise g c = λ well.
    let good = c.close.ensures.premise well in
    either_way (ListsRuns (record {
      stands = StandsFor over_files;
      clean = IsClean over_files;
      leaves = Leaves over_files;
    }) (choice_if folded (is_some c.args.lists)) c.args.told) c.args.store c.run-ended.new.store _
    (HasGoodDisk over_files c.args.store.connection) (λ lines texts r. r.premise good)
    (λ same. subst (λ k. HasGoodDisk over_files k.connection) same good)
    c.run-ended.result c.run-ended.ensures.ends

pub returns-clause-ends : goal.returns-clause-ends
returns-clause-ends g c = λ well i stood leaves.
    let t = listed_run_so c.args.told i c.args.store c.run-ended.new.store (CloseAfter i c.close.result)
    (c.close.ensures.premise well)
    stood leaves
    (λ run range stands after. close_after c.run-ended.new.store c.close.result c.close.ensures.left_whole
    c.close.ensures.kept well i run stands after) (choice_if folded (is_some c.args.lists)) _ c.run-ended.result
    c.run-ended.ensures.ends in
    record { run = t.0; ended = t.1; left = t.2 }
