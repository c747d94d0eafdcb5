use Rattle.std.proofs.Common.{◌≡◌, find, option_map, Some, sym, ap, ◌∙◌}
use Rattle.mf_model.specs.Receipts.{Use}
use Rattle.mf_model.specs.Store.{use_at}
use Rattle.mf_store_schema.specs.Rows.{is_row_of_entry}
use Rattle.mf_store_values.specs.Flat.{entry_in, tables_of}
use Rattle.mf_store_values.specs.ReceiptRows.{receipt_in}
use Rattle.mf_store.proofs.CatalogueLemmas.{known}
use Rattle.mf_store.proofs.UseLemmas.{carrier}
use Rattle.mf_store.proofs.store.Store.receipt.Goals as goal

pub returns-clause-value : goal.returns-clause-value
returns-clause-value g c clean i s =
    let x = c.args.office in
    let r = c.args.receipt.now in
    let row = c.in-Some.row in
    let before = c.in_ok-entry.ensures.asks.kept.premise clean in
    let office = c.get-office.ensures.value in
    let text = c.as_str.ensures in
    let k = known (receipt_in x) c.in_ok-row.field-0 row (use_at x r i) c.in-Some.is (c.in_ok-row.ensures.value before i
    s ∙ (λ t. option_map (receipt_in (office t)) (use_at (office t) (text t) i))) in
    let by = carrier x r k.0 i s.sound k.1 in
    let found : Some c.in_ok-entry-2.entry ≡ Some (entry_in x k.0.by.loan by.entry) =
    sym c.in_ok-entry-2.ensures.value ∙ c.in_ok-entry.ensures.value clean i (c.in_ok-row.ensures.asks.kept.same before i
    s)
    ∙ (λ t. find (is_row_of_entry (office t) (k.2 t).loan (k.2 t).seq) (tables_of i).entries) ∙ by.row_is in
    let entry : c.in_ok-entry-2.entry ≡ entry_in x k.0.by.loan by.entry = cc in
    ap Some (c.in_ok-use_from.ensures.found x k.0 by.entry k.2 entry by.by_is) ∙ ap (option_map (λ (u : Use). u.by))
    (sym k.1)
