use Rattle.std.proofs.Common.{subst}
use Rattle.mf_sheet.specs.Runs.{RunsRows}
use Rattle.mf_store.specs.Stands.{StandsFor, IsClean, Leaves}
use Rattle.mf_store_noted.specs.Tabled.{HasGoodDisk}
use Rattle.sqlite.specs.Files.{over_files}
use Rattle.microloan_files.specs.Closing.{CloseAfter}
use Rattle.microloan_files.proofs.SheetLemmas.{source_either_way, source_so}
use Rattle.microloan_files.proofs.ClosingLemmas.{close_after}
use Rattle.microloan_files.proofs.closing.collect_and_close.Goals as goal

pub returns-clause-premise : goal.returns-clause-premise
returns-clause-premise g c = λ well.
    let good = c.close.ensures.premise well in
    source_either_way (RunsRows (record {
      stands = StandsFor over_files;
      clean = IsClean over_files;
      leaves = Leaves over_files;
    }) c.args.told.now c.args.caller) c.args.store c.collect_sheet-ended.new.store _
    (HasGoodDisk over_files c.args.store.connection) (λ rows results r. r.premise good)
    (λ same. subst (λ k. HasGoodDisk over_files k.connection) same good)
    c.collect_sheet-ended.result c.collect_sheet-ended.ensures.ends

pub returns-clause-ends : goal.returns-clause-ends
returns-clause-ends g c = λ well i stood leaves.
    let t = source_so c.args.told.now c.args.caller i c.args.store c.collect_sheet-ended.new.store
    (CloseAfter i c.close.result)
    (c.close.ensures.premise well) stood leaves
    (λ run range stands after. close_after c.collect_sheet-ended.new.store c.close.result c.close.ensures.left_whole
    c.close.ensures.kept well i run stands after) _ c.collect_sheet-ended.result c.collect_sheet-ended.ensures.ends in
    record { run = t.0; ended = t.1; left = t.2 }
