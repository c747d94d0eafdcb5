use Rattle.std.proofs.Common.{◌∙◌}
use Rattle.std.proofs.lemmas.Result.{IfOk-weaker}
use Rattle.mf_model.specs.Store.{rows_at}
use Rattle.mf_store.proofs.LoanLemmas.{counted, counted_there, counted_loans, loans_shown}
use Rattle.mf_store.proofs.store.Store.ledgers_at.Goals as goal

pub returns-clause-value : goal.returns-clause-value
returns-clause-value g c clean i s =
    let mid = c.ledgers_of.ensures.asks.kept.premise clean in
    let office = c.args.office in
    let loans = (rows_at office i).loans in
    IfOk-weaker c.ledgers_of.result _ _ (λ list h. h ∙ counted_loans 1 loans)
    (c.ledgers_of.ensures.value clean i (c.in_ok-rows.ensures.asks.kept.same mid i s) office (counted 1 loans)
    (counted_there office i) (c.deref.ensures.value ∙ c.in_ok-rows.ensures.rows mid i s
    ∙ loans_shown office i s.sound))
