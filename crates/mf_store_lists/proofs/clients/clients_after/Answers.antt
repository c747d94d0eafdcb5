use Rattle.std.proofs.Common.{sym, ap, length, arith, ◌∙◌}
use Rattle.mf_lists.specs.Lists.{counted_client}
use Rattle.mf_model.specs.Store.{rows_at}
use Rattle.mf_store_lists.specs.Counted.{uncounted}
use Rattle.mf_store_lists.proofs.CountLemmas.{as_many, page_chosen, page_counted, page_uncounted, slice_back}
use Rattle.mf_store_lists.proofs.clients.clients_after.Goals as goal

pub returns-clause-value : goal.returns-clause-value
returns-clause-value g c clean i s =
    let after = c.args.after in
    let rows = rows_at c.args.office i in
    let mid = c.in_ok-count_loans.ensures.asks.kept.premise clean in
    let page = c.in_ok-lines.ensures in
    let chosen = page_chosen after rows in
    let lines = c.deref_mut.ensures.value ∙ page.value mid i s ∙ page_uncounted after rows in
    let counted = c.in_ok-count_loans.ensures.counted clean i (page.asks.kept.same mid i s) chosen lines in
    let long = c.deref_mut.ensures.len in
    let many = ap length counted ∙ as_many (counted_client i.catalogue rows) uncounted chosen ∙ sym (ap length lines) in
    c.new.ensures ∙ slice_back _ _ _ (omega (arith, long, many)) ∙ counted ∙ page_counted after i.catalogue rows
