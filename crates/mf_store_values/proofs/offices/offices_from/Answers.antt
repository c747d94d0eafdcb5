use Rattle.sqlite_keyed.proofs.ListLemmas.{all_of}
use Rattle.mf_model.specs.Desk.{office_shown}
use Rattle.mf_model.specs.Institution.{Office}
use Rattle.mf_store_schema.specs.Rows.{office_row}
use Rattle.mf_store_values.specs.Flat.{office_under}
use Rattle.mf_store_values.proofs.ReadLemmas.{next_read}
use Rattle.mf_store_values.proofs.offices.offices_from.Goals as goal

pub loop-row-preserved : goal.loop-row-preserved
loop-row-preserved c parents fs are =
    next_read (λ (f : Office). Unit {0}) (λ f. office_row (office_under parents f)) office_shown fs c.args.rows.now
    c.loop-row.row-index c.in_ok-office_from.field-0 are (all_of _ (λ f. tt) fs) c.loop-row-test.true c.row-item.is
    c.in_ok-push.ensures.items (c.loop-row.invariant parents fs are) (λ f any.
    c.in_ok-office_from.ensures.office parents f)
