use Rattle.std.proofs.Common.{ap, ◌∙◌}
use Rattle.mf_office.specs.declared.account.Account.{Account}
use Rattle.mf_model.specs.Store.{ledger_at}
use Rattle.mf_store_values.specs.Flat.{ledger_entries}
use Rattle.mf_store.proofs.store.Store.ledger_of.Goals as goal

pub returns-clause-value : goal.returns-clause-value
returns-clause-value g c clean i s office number l are at =
    let found = c.in_ok-account.ensures.loan office number l.loan are in
    let entries = c.in_ok-entries.ensures.value clean i s ∙ ap (λ (a : Account). ledger_entries (ledger_at a i)) found.0
    ∙ ap ledger_entries at in
    λ t. record { loan = found.1 t; entries = entries t }
