use Rattle.mf_store_audit.proofs.PlaceLemmas.{AreAdded}
use Rattle.mf_store_audit.proofs.places.add_found.Given as goal

abbrev pub invariant-loop-place : goal.invariant-loop-place
invariant-loop-place g l =
    AreAdded g.R.Flaw.Flaws.all (g.R.Row.Breaks l.setting) g.R.Flaw.Flaws.finding (g.R.Row.IsInOrder l.setting)
    l.all l.rows l.initial.findings.items l.findings.items l.place
