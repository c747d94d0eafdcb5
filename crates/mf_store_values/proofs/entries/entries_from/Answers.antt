use Rattle.std.proofs.Common.{◌∙◌}
use Rattle.std.proofs.lemmas.List.{map-id}
use Rattle.mf_account.specs.declared.entry.Entry.{Entry}
use Rattle.mf_office.specs.Texts.{IsCaller}
use Rattle.mf_store_schema.specs.Rows.{entry_row}
use Rattle.mf_store_values.specs.Flat.{entry_in}
use Rattle.mf_store_values.proofs.ReadLemmas.{next_read, all_read}
use Rattle.mf_store_values.proofs.entries.entries_from.Goals as goal

pub loop-row-preserved : goal.loop-row-preserved
loop-row-preserved c office loan es called are =
    next_read (λ (e : Entry). IsCaller e.staff) (λ e. entry_row (entry_in office loan e)) (λ e. e) es
    c.args.rows.now c.loop-row.row-index c.in_ok-entry_in_row.field-0 are called c.loop-row-test.true c.row-item.is
    c.in_ok-push.ensures.items (c.loop-row.invariant office loan es called are)
    (c.in_ok-entry_in_row.ensures.entry office loan)

pub returns-clause-entries : goal.returns-clause-entries
returns-clause-entries c office loan es called are =
    all_read (λ e. entry_row (entry_in office loan e)) (λ e. e) es c.args.rows.now c.loop-row.row-index are
    c.loop-row-test.false (c.loop-row.invariant office loan es called are) ∙ map-id es
