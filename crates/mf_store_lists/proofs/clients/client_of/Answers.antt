use Rattle.std.proofs.Common.{◌∙◌}
use Rattle.mf_store_values.specs.Flat.{client_in}
use Rattle.mf_store_lists.proofs.clients.client_of.Goals as goal

pub returns-clause-client : goal.returns-clause-client
returns-clause-client c office client are =
    let is = c.in_ok-found.ensures.row (client_in office client.0 client.1) are in
    let number = c.in_ok-number.ensures.number ∙ (λ t. (is t).number) in
    let name = c.into_name.ensures ∙ (λ t. (is t).name) in
    λ t. record { number = number t; name = name t; waiting = 0; active = 0; overdue = 0 }
