use Rattle.std.proofs.Common.{◌∙◌}
use Rattle.std.proofs.lemmas.Result.{IfOk-weaker}
use Rattle.mf_model.specs.Store.{rows_at}
use Rattle.mf_store.proofs.LoanLemmas.{shown_loans, shown_there, above_shown, lines_shown}
use Rattle.mf_store.proofs.store.Store.loans.Goals as goal

pub returns-clause-value : goal.returns-clause-value
returns-clause-value g c clean i s =
    let mid = c.lines_of.ensures.asks.kept.premise clean in
    let office = c.args.office in
    let after = c.args.after in
    let loans = (rows_at office i).loans in
    let shown = rw c.get.ensures.value at (c.in_ok-rows.ensures.rows mid i s) in
    IfOk-weaker c.lines_of.result _ _ (λ list h. h
    ∙ lines_shown i.catalogue office after loans)
    (c.lines_of.ensures.value clean i (c.in_ok-rows.ensures.asks.kept.same mid i s) office (shown_loans after loans)
    (shown_there office after i) (c.deref.ensures.value ∙ shown ∙ above_shown office after i s.sound))
