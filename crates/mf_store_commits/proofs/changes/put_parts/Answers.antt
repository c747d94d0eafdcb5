use Rattle.std.proofs.Common.{◌+◌, ℕ, ap, ◌∙◌, get_or}
use Rattle.std.proofs.lemmas.List.{get_or_default}
use Rattle.mf_account.specs.declared.settled.SettledPart.{SettledPart}
use Rattle.mf_account.specs.Applicable.{no_settled}
use Rattle.mf_store_schema.specs.declared.writes.StoreWrite.TheVariants.{PutShare}
use Rattle.mf_store_values.specs.Flat.{share_in}
use Rattle.mf_store_commits.proofs.StepLemmas.{numbered_pushed}
use Rattle.mf_store_commits.proofs.changes.put_parts.Goals as goal

pub loop-part-preserved : goal.loop-part-preserved
loop-part-preserved c =
    let before = c.loop-part.invariant in
    let parts = c.args.parts.now in
    let at = c.loop-part.part-index in
    let part = get_or parts at no_settled in
    record {
      place = ap (λ n. n + 1) before.place;
      writes = numbered_pushed (λ (placed : ℕ × (ℕ × SettledPart)). PutShare
          (share_in c.args.office c.args.loan placed)) (λ place s. (c.args.seq, (place, s))) parts at part
          c.args.writes.now.items c.loop-part.writes.items _ c.loop-part-test.true
          (get_or_default parts at no_settled part c.loop-part-test.true)
          (c.in_ok-push.ensures.items ∙ rw (c.in_ok-row.ensures.row, before.place)) before.writes;
    }
