use Rattle.std.proofs.Common.{subst}
use Rattle.mf_sheet.specs.Runs.{RunsRows}
use Rattle.mf_store_noted.specs.Tabled.{HasGoodDisk}
use Rattle.mf_store.specs.Stands.{StandsFor, IsClean, Leaves}
use Rattle.sqlite.specs.Files.{over_files}
use Rattle.microloan_files.specs.Beginnings.{LeaveBeginning}
use Rattle.microloan_files.proofs.SheetLemmas.{sheet_either_way, collect_so}
use Rattle.microloan_files.proofs.sheet.collect_over.Goals as goal

pub returns-clause-premise : goal.returns-clause-premise
returns-clause-premise g c = λ clean.
    let good = c.hand_back.ensures.premise clean in
    sheet_either_way (RunsRows (record {
      stands = StandsFor over_files;
      clean = IsClean over_files;
      leaves = Leaves over_files;
    }) c.args.told.now c.args.caller) c.args.store c.collect-ended.new.store _
    (HasGoodDisk over_files c.args.store.connection) (λ rows results r. r.premise good)
    (λ same. subst (λ k. HasGoodDisk over_files k.connection) same good)
    c.collect-ended.result c.collect-ended.ensures.ends

pub returns-clause-ends : goal.returns-clause-ends
returns-clause-ends g c = λ clean i stood leaves.
    let t = collect_so c.args.told.now c.args.caller i c.args.store c.collect-ended.new.store
    (λ run. LeaveBeginning i run
    c.hand_back.result) (c.hand_back.ensures.premise clean) stood leaves
    (λ run range stands after. c.hand_back.ensures.beginning clean i run stood.sound range after) _
    c.collect-ended.result c.collect-ended.ensures.ends in
    record { run = t.0; ended = t.1; left = t.2 }
