use Rattle.std.proofs.Common.{not, ap, ◌∙◌}
use Rattle.std.specs.List.{enumerate_from}
use Rattle.mf_model.specs.Store.{rows_at}
use Rattle.mf_store_lists.proofs.ClientLoanLemmas.{loans_told, told_of_one}
use Rattle.mf_store_lists.proofs.NumberedLemmas.{loan_rows, loans_there}
use Rattle.mf_store_lists.proofs.client_loans.loans_of_client.Goals as goal

pub returns-clause-value : goal.returns-clause-value
returns-clause-value g c clean i s =
    let third = c.in_ok-lines.ensures.asks.kept.premise clean in
    let second = c.in_ok-rows.ensures.asks.kept.premise third in
    let first = c.in_ok-client.ensures.asks.kept.premise second in
    let after_day = c.in_ok-today.ensures.asks.kept.same first i s in
    let after_client = c.in_ok-client.ensures.asks.kept.same second i after_day in
    let after_rows = c.in_ok-rows.ensures.asks.kept.same third i after_client in
    let office = c.args.client.office in
    let loans = (rows_at office i).loans in
    let lines = c.in_ok-lines.ensures.value clean i after_rows (c.in_ok-today.ensures.value first i s) office
    (enumerate_from 1 loans) (loans_there office i) (c.deref.ensures.value
    ∙ c.in_ok-rows.ensures.rows third i after_client ∙ loan_rows office c.get.result i c.get.ensures.value s.sound)
    ∙ loans_told c.args.client.number i.catalogue (rows_at office i) in
    told_of_one c.args.client i c.in_ok-client.field-0 _ (c.in_ok-client.ensures.value second i after_day)
    (c.is_none.ensures ∙ ap not c.if-is_none.false) lines
