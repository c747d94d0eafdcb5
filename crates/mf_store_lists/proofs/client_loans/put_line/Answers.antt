use Rattle.std.proofs.Common.{sym, ap, ◌∙◌}
use Rattle.std.proofs.lemmas.Bool.{eq-eqb}
use Rattle.mf_office.specs.declared.account.Account.{Account}
use Rattle.mf_lists.specs.Lists.{client_loan}
use Rattle.mf_model.specs.Store.{ledger_at}
use Rattle.mf_store_lists.proofs.ToldLemmas.{one_told}
use Rattle.mf_store_lists.proofs.client_loans.put_line.Goals as goal

pub returns-clause-added : goal.returns-clause-added
returns-clause-added g c clean i s day office l are at =
    let found = c.in_ok-account.ensures.loan office l.0 l.1.loan are in
    let client = c.get.ensures.value ∙ (λ t. (found.1 t).client) in
    let line = c.in_ok-line.ensures.value clean i s l.1 (ap (λ (a : Account). ledger_at a i) found.0 ∙ at)
    (sym found.1) day in
    one_told _ _ (client_loan i.catalogue l) _ _ (eq-eqb l.1.loan.client c.args.client
    (sym client ∙ c.if-get.false ∙ c.get-2.ensures.value)) c.in_ok-push.ensures.items
    (line ∙ (λ t. client_loan i.catalogue ((found.0 t).number, l.1)))
