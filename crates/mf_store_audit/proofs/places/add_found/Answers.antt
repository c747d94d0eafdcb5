use Rattle.std.proofs.Common.{◌∙◌, ◌++◌, ◌∷◌, sym, ap, true≢false, [], Vec, Global}
use Rattle.std.specs.Prelude.{option_copied}
use Rattle.mf_store_audit.specs.Places.{told_at}
use Rattle.std.proofs.lemmas.List.{append-nil}
use Rattle.mf_store_audit.specs.declared.finding.Finding.{Finding}
use Rattle.mf_store_audit.proofs.PlaceLemmas.{one_more}
use Rattle.mf_store_audit.proofs.places.add_found.Goals as goal
use Rattle.mf_store_audit.proofs.places.add_found.Goals.{in-Some+in_ok-push+else-not-all-2, in_default}

pub loop-place-preserved : goal.loop-place-preserved
loop-place-preserved g c =
    let Breaks = g.R.Row.Breaks c.args.setting in
    let told = (c.in_ok-flaw.ensures {u = tt}).found in
    let first = (c.in_ok-flaw.ensures {u = tt}).first in
    let before = option_copied c.row_before.result in
    let start = c.args.findings.now.items in
    let items = c.loop-place.findings.items in
    let more = one_more g.R.Flaw.Flaws.all Breaks g.R.Flaw.Flaws.finding (g.R.Row.IsInOrder c.args.setting) c.args.all
    c.args.rows.now start items c.match-branch-2.findings.items c.loop-place.place c.index-rows-place.result before
    c.in_ok-flaw.field-0 c.loop-place-test.true c.index-rows-place.is c.row_before.ensures told first in
    elim c.match-branch-2.branch [
      | in-Some+in_ok-push+else-not-all-2 w ↦
          more (λ one. absurd (true≢false (sym w.if-not-all-2.false ∙ one)))
          (ap (λ (v : Vec Finding Global). v.items) w.findings-is ∙ (w.in_ok-push.ensures {u = tt}).items
          ∙ (λ t. items ++ w.finding.ensures t ∷ []) ∙ (λ t. items ++ told_at g.R.Flaw.Flaws.finding c.loop-place.place
          (sym w.in-Some.is t))) c.loop-place.invariant
      | in_default w ↦
          more (λ one. w.in_default.is)
          (ap (λ (v : Vec Finding Global). v.items) w.findings-is ∙ sym (append-nil items)
          ∙ (λ t. items ++ told_at g.R.Flaw.Flaws.finding c.loop-place.place (sym w.in_default.is t)))
          c.loop-place.invariant
    ]
