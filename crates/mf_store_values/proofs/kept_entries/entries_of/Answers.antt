use Rattle.std.proofs.Common.{sym, ◌∙◌}
use Rattle.std.proofs.lemmas.List.{map-id}
use Rattle.mf_store_values.specs.Ledgers.{IsReadable}
use Rattle.mf_store_values.specs.Flat.{entry_in}
use Rattle.std.proofs.lemmas.Option.{same_Some}
use Rattle.mf_store_values.proofs.ReadLemmas.{row_at, next_read, all_read}
use Rattle.mf_store_values.proofs.kept_entries.entries_of.Goals as goal

pub returns-in_default-clause-entries : goal.returns-in_default-clause-entries
returns-in_default-clause-entries c office loan es all are =
    let at = row_at IsReadable (entry_in office loan) es c.args.rows.now c.loop-row.row-index c.row-item.result
    (sym are) all c.loop-row-test.true c.row-item.is in
    absurd (c.in_default.not-Some _ ((c.in_ok-entry.ensures {u = tt}).entry office loan at.value at.holds
    (sym at.row_is)))

pub loop-row-preserved : goal.loop-row-preserved
loop-row-preserved c office loan es all are =
    next_read IsReadable (entry_in office loan) (λ e. e) es c.args.rows.now c.loop-row.row-index c.in-Some.entry
    (sym are) all c.loop-row-test.true c.row-item.is c.in_ok-push.ensures.items
    (c.loop-row.invariant office loan es all are) (λ e readable is. same_Some _ _ (sym c.in-Some.is
    ∙ (c.in_ok-entry.ensures {u = tt}).entry office loan e readable (sym is)))

pub returns-clause-entries : goal.returns-clause-entries
returns-clause-entries c office loan es all are =
    all_read (entry_in office loan) (λ e. e) es c.args.rows.now c.loop-row.row-index (sym are) c.loop-row-test.false
    (c.loop-row.invariant office loan es all are) ∙ map-id es
