use Rattle.std.proofs.Common.{◌∙◌}
use Rattle.std.specs.List.{enumerate_from}
use Rattle.mf_model.specs.Store.{rows_at}
use Rattle.mf_store_lists.proofs.CountLemmas.{all_are_counted}
use Rattle.mf_store_lists.proofs.NumberedLemmas.{loan_rows, loans_there}
use Rattle.mf_store_lists.proofs.clients.count_loans.Goals as goal

pub returns-clause-counted : goal.returns-clause-counted
returns-clause-counted g c clean i s clients none =
    let rows = c.in_ok-rows.ensures in
    let mid = c.in_ok-count_rows.ensures.asks.kept.premise clean in
    let first = c.in_ok-today.ensures.asks.kept.same (rows.asks.kept.premise mid) i s in
    let office = c.args.office in
    let loans = (rows_at office i).loans in
    c.in_ok-count_rows.ensures.counted clean i (rows.asks.kept.same mid i first)
    (c.in_ok-today.ensures.value (rows.asks.kept.premise mid) i s) office (enumerate_from 1 loans)
    (loans_there office i) (c.deref.ensures.value ∙ rows.rows mid i first
    ∙ loan_rows office c.get.result i c.get.ensures.value s.sound)
    clients none ∙ all_are_counted i.catalogue (rows_at office i) clients
