use Rattle.std.proofs.Common.{ℕ}
use Rattle.sqlite_keyed.proofs.ListLemmas.{all_of}
use Rattle.mf_account.specs.declared.settled.SettledPart.{SettledPart}
use Rattle.mf_store_schema.specs.Rows.{share_row}
use Rattle.mf_store_values.specs.Flat.{share_in}
use Rattle.mf_store_values.specs.Kept.{part_told}
use Rattle.mf_store_values.proofs.ReadLemmas.{next_read, all_read}
use Rattle.mf_store_values.proofs.parts.parts_from.Goals as goal

pub loop-row-preserved : goal.loop-row-preserved
loop-row-preserved c office loan all are =
    next_read (λ (item : ℕ × (ℕ × SettledPart)). Unit {0}) (λ item. share_row (share_in office loan item)) part_told
    all
    c.args.rows.now c.loop-row.row-index c.in_ok-part_in_row.field-0 are (all_of _ (λ item. tt) all)
    c.loop-row-test.true c.row-item.is c.in_ok-push.ensures.items (c.loop-row.invariant office loan all are)
    (λ item any. c.in_ok-part_in_row.ensures.part office loan item)

pub returns-clause-parts : goal.returns-clause-parts
returns-clause-parts c office loan all are =
    all_read (λ item. share_row (share_in office loan item)) part_told all c.args.rows.now c.loop-row.row-index are
    c.loop-row-test.false (c.loop-row.invariant office loan all are)
