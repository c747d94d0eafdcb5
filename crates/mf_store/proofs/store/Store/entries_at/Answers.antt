use Rattle.std.proofs.Common.{◌∙◌}
use Rattle.std.proofs.lemmas.Result.{IfOk-weaker}
use Rattle.mf_model.specs.Store.{ledger_at}
use Rattle.mf_store_values.specs.Flat.{ledger_entries}
use Rattle.mf_store_commits.proofs.EnteredLemmas.{loan_called, loan_entries_shown}
use Rattle.mf_store.proofs.store.Store.entries_at.Goals as goal

pub returns-clause-value : goal.returns-clause-value
returns-clause-value g c clean i s =
    let x = c.args.loan.office in
    let n = c.args.loan.number in
    let rows = rw (c.get.ensures.value, c.get-2.ensures.value) at (c.in_ok-rows.ensures.rows clean i s) in
    IfOk-weaker c.entries_from.result _ _ (λ list h. h x n (ledger_entries (ledger_at c.args.loan i))
    (loan_called x n i s.sound) (c.deref.ensures.value ∙ rows ∙ loan_entries_shown x n i s.sound))
    c.entries_from.ensures.entries
