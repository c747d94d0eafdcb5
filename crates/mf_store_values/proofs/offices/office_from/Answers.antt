use Rattle.std.proofs.Common.{◌∙◌}
use Rattle.mf_store_values.specs.Flat.{office_under}
use Rattle.mf_store_values.proofs.offices.office_from.Goals as goal

pub returns-clause-office : goal.returns-clause-office
returns-clause-office c parents f are =
    let is = c.in_ok-found.ensures.row (office_under parents f) are in
    let number = c.in_ok-number.ensures.number ∙ (λ t. (is t).number) in
    let parent = c.in_ok-parent.ensures.number ∙ (λ t. (is t).parent) in
    let name = c.into_name.ensures ∙ (λ t. (is t).name) in
    λ t. record { number = number t; parent = parent t; name = name t }
