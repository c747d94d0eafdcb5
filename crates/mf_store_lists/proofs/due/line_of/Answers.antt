use Rattle.std.proofs.Common.{◌≡◌, sym, ap, ◌∙◌}
use Rattle.std.specs.Prelude.{sum_by}
use Rattle.std.specs.Option.{unwrap_or}
use Rattle.mf_alloc.specs.Sums.{row_outstanding}
use Rattle.mf_arrears.specs.Ageing.{earliest_due}
use Rattle.mf_lists.specs.Lists.{last_entry, name_of_client}
use Rattle.mf_model.specs.Store.{rows_at}
use Rattle.mf_store_values.specs.Flat.{ledger_entries}
use Rattle.mf_store_lists.specs.Due.{portions_of}
use Rattle.mf_store_lists.proofs.DueLemmas.{portions_are}
use Rattle.mf_store_lists.proofs.due.line_of.Goals as goal

pub returns-clause-value : goal.returns-clause-value
returns-clause-value g c clean i s l at its are =
    let k = i.catalogue in
    let rows = rows_at c.args.account.office i in
    let mid = c.in_ok-entries.ensures.asks.kept.premise clean in
    let client : c.args.loan.now.client ≡ l.loan.client = λ t. (sym its t).client in
    let name = c.in_ok-name.ensures.value mid i s ∙ ap (name_of_client rows) client in
    let oldest = sym (ap (λ o. unwrap_or o 0) (sym (c.earliest_due.ensures ∙ ap earliest_due are)
    ∙ c.in_ok-oldest.ensures.value)) in
    let due = c.in_ok-due.ensures.due ∙ ap (portions_of c.args.day) are ∙ portions_are c.args.day k l in
    let left = c.in_ok-left.ensures.left ∙ ap (sum_by row_outstanding) are in
    let entries = c.in_ok-entries.ensures.value clean i (c.in_ok-name.ensures.asks.kept.same mid i s)
    ∙ ap ledger_entries at in
    let last = c.last_entry.ensures ∙ ap last_entry (c.deref.ensures.value ∙ entries) in
    λ t. record {
      loan = c.args.account.number;
      client = client t;
      name = name t;
      oldest = oldest t;
      due = due t;
      left = left t;
      last = last t;
    }
