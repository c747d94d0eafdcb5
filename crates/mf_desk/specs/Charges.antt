-- The charges that a new product names, each looked up by its number.
use Rattle.std.specs.Prelude.{ℕ, List, [], ◌∷◌, option_map, Option, Some, None, Result, Ok}
use Rattle.mf_base.specs.declared.fault.Fault.{Fault}
use Rattle.mf_catalog.specs.declared.charge.ChargeDef.{ChargeDef}
use Rattle.mf_model.specs.Institution.{Institution, charge_in}
use Rattle.mf_model.specs.Outcomes.{with_found}

-- the number of a charge, if there is one
abbrev pub number_of : Option ChargeDef → Option ℕ
number_of charge = option_map (λ c. c.number) charge

-- the charge that is named, if one is; F4 where it isn't there
abbrev pub charge_named : Option ℕ → Institution → Result (Option ChargeDef) Fault
charge_named None i = Ok None
charge_named (Some n) i = with_found (charge_in i.catalogue n) (λ c. Some c)

-- a charge, if there is one, and others after it
abbrev pub charge_before : Option ChargeDef → List ChargeDef → List ChargeDef
charge_before None charges = charges
charge_before (Some charge) charges = charge ∷ charges

-- those of three charges that there are
abbrev pub list_of : Option ChargeDef → Option ChargeDef → Option ChargeDef → List ChargeDef
list_of disbursement instalment overdue =
    charge_before disbursement (charge_before instalment (charge_before overdue []))
