use Rattle.std.proofs.Common.{◌∙◌}
use Rattle.mf_store_values.specs.Flat.{client_in}
use Rattle.mf_store_values.proofs.office_rows.name_from.Goals as goal

pub returns-clause-name : goal.returns-clause-name
returns-clause-name c office number name are =
    let is = c.in_ok-found.ensures.row (client_in office number name) are in
    c.into_name.ensures ∙ (λ t. (is t).name)
