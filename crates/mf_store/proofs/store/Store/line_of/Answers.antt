use Rattle.std.proofs.Common.{sym, ap, ◌∙◌}
use Rattle.mf_office.specs.declared.account.Account.{Account}
use Rattle.mf_model.specs.Store.{ledger_at}
use Rattle.mf_store.proofs.store.Store.line_of.Goals as goal

pub returns-clause-value : goal.returns-clause-value
returns-clause-value g c clean i s office number l are at =
    let found = c.in_ok-account.ensures.loan office number l.loan are in
    let status = c.in_ok-status.ensures.value clean i s l (ap (λ (a : Account). ledger_at a i) found.0 ∙ at)
    (sym found.1) in
    λ t. record { loan = found.0 t; status = status t }
