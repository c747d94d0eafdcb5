use Rattle.std.proofs.Common.{sym, ◌∙◌}
use Rattle.std.proofs.lemmas.Option.{same_Some}
use Rattle.mf_store_values.specs.Flat.{staff_in}
use Rattle.mf_store_lists.proofs.staff.line_of.Goals as goal

pub returns-clause-line : goal.returns-clause-line
returns-clause-line c office s are =
    let is = c.in_ok-found.ensures.row (staff_in office s.0 s.1) are in
    let number = c.in_ok-number.ensures.number ∙ (λ t. (is t).number) in
    let role = same_Some c.in_ok-role.role s.1.role (sym c.in_ok-role.ensures.value
    ∙ c.from_number.ensures.every s.1.role (λ t. (is t).role)) in
    let name = c.into_name.ensures ∙ (λ t. (is t).name) in
    λ t. record { number = number t; name = name t; role = role t }
