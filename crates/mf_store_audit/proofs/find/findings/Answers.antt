use Rattle.std.proofs.Common.{◌≡◌, true}
use Rattle.std.proofs.lemmas.Result.{IfOk-weaker}
use Rattle.mf_store_sound.specs.Sound.{AreOfSoundAt}
use Rattle.mf_store_audit.specs.Findings.{AreFindings}
use Rattle.mf_store_audit.proofs.find.findings.Goals as goal

pub returns-clause-every : goal.returns-clause-every
returns-clause-every c =
    IfOk-weaker c.findings_of_unsound.result _ (λ found. c.args.all ≡ true
    → ¬ AreOfSoundAt c.args.version c.args.tables.now → AreFindings c.args.version c.args.tables.now found.items)
    (λ found every whole none. every whole) c.findings_of_unsound.ensures.every
