use Rattle.std.proofs.Common.{sym, ◌∙◌}
use Rattle.std.proofs.lemmas.Option.{same_Some}
use Rattle.mf_store_values.specs.Flat.{staff_in}
use Rattle.mf_store_values.proofs.office_rows.member_from.Goals as goal

pub returns-clause-member : goal.returns-clause-member
returns-clause-member c office number s are =
    let is = c.in_ok-found.ensures.row (staff_in office number s) are in
    let role = same_Some c.in_ok-role.role s.role (sym c.in_ok-role.ensures.value
    ∙ c.from_number.ensures.every s.role (λ t. (is t).role)) in
    let name = c.into_name.ensures ∙ (λ t. (is t).name) in
    λ t. record { name = name t; role = role t }
