use Rattle.std.proofs.Common.{Some, sym, ap, ◌∙◌}
use Rattle.std.specs.Option.{option_map}
use Rattle.mf_model.specs.Accounts.{statement, statement_with}
use Rattle.mf_model.specs.Store.{ledger_at}
use Rattle.mf_store_commits.proofs.LoanLemmas.{loan_of}
use Rattle.mf_store.proofs.CatalogueLemmas as looked
use Rattle.mf_store.proofs.KnownAccountLemmas.{balances_known, status_known}
use Rattle.mf_store.proofs.store.Store.statement.Goals as goal

pub returns-in-Some-account-clause-value : goal.returns-in-Some-account-clause-value
returns-in-Some-account-clause-value g c clean i s =
    let account = c.args.account in
    let k = looked.known loan_of c.in_ok-loan.field-0 c.in-Some.loan (ledger_at account i) c.in-Some.is
    (c.in_ok-loan.ensures.value clean i s) in
    let known = c.in-Some-account.known.now in
    let is = c.in-Some-account.ensures i (c.known.ensures i (c.in_ok-loan.ensures.asks.kept.same clean i s)) in
    let status = c.status.ensures ∙ status_known account k.0 i known k.1 is in
    let sums = c.balances.ensures.value ∙ balances_known account k.0 i known k.1 is in
    ap Some (c.with.ensures ∙ (λ t. statement_with (k.2 t) (status t) (sums t)))
    ∙ sym (ap (option_map (statement i.catalogue)) k.1)
