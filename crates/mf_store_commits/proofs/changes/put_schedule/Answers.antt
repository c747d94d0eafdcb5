use Rattle.std.proofs.Common.{◌+◌, ℕ, ap, ◌∙◌}
use Rattle.mf_alloc.specs.Sums.{Instalment}
use Rattle.mf_store_schema.specs.declared.writes.StoreWrite.TheVariants.{PutInstalment}
use Rattle.mf_store_values.specs.Flat.{instalment_in}
use Rattle.mf_store_commits.proofs.StepLemmas.{numbered_pushed}
use Rattle.mf_store_commits.proofs.changes.put_schedule.Goals as goal

pub loop-row-preserved : goal.loop-row-preserved
loop-row-preserved c =
    let before = c.loop-row.invariant in
    record {
      number = ap (λ n. n + 1) before.number;
      writes = numbered_pushed (λ (item : ℕ × Instalment). PutInstalment (instalment_in c.args.office c.args.loan item))
          (λ n r. (n, r)) c.args.rows.now c.loop-row.row-index c.row-item.result c.args.writes.now.items
          c.loop-row.writes.items _ c.loop-row-test.true c.row-item.is
          (c.in_ok-push.ensures.items ∙ rw (c.in_ok-put.ensures.row, before.number)) before.writes;
    }
