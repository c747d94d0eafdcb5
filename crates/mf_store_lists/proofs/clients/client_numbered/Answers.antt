use Rattle.std.proofs.Common.{sym, ap, ◌∙◌}
use Rattle.mf_model.specs.Institution.{item_numbered}
use Rattle.mf_model.specs.Store.{rows_at}
use Rattle.mf_store.proofs.CatalogueLemmas.{some_is}
use Rattle.mf_store_lists.proofs.clients.client_numbered.Goals as goal

pub returns-clause-client : goal.returns-clause-client
returns-clause-client g c clean i s name at =
    let number = c.in_ok-number.ensures.number in
    let there = ap (item_numbered (rows_at c.args.office i).clients) number ∙ at in
    let same = sym (some_is (sym c.in_ok-name.ensures.value ∙ c.in_ok-found.ensures.value clean i s ∙ there)) in
    λ t. record { number = number t; name = same t; waiting = 0; active = 0; overdue = 0 }
