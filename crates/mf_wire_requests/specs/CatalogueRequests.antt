-- What the bodies of requests on the business day and on charges ask.
use Rattle.std.specs.Prelude.{codes, Option, option_map, option_and_then}
use Rattle.serde_json.specs.Data.{Data}
use Rattle.mf_catalog.specs.Limits.{greatest_value}
use Rattle.mf_model.specs.declared.request.Request.{Request}
use Rattle.mf_model.specs.declared.request.CatalogueRequest.TheVariants.{SetDay, AddCharge}
use Rattle.mf_model.specs.declared.request.Request.TheVariants.{Catalogue}
use Rattle.mf_wire_requests.specs.Bodies.{name_at, number_at, day_at}
use Rattle.mf_wire_requests.specs.Named.{kind_at, calc_at}

-- a later business day, by the member day
abbrev pub day_request : Data → Option Request
day_request d = option_map (λ day. Catalogue (SetDay day)) (day_at (codes "day") d)

-- a new charge, by the members kind, calc, value and name; how it is computed bounds its value
abbrev pub new_charge_request : Data → Option Request
new_charge_request d =
    option_and_then (λ kind.
    option_and_then (λ calc.
    option_and_then (λ value.
    option_map (λ name. Catalogue (AddCharge name kind calc value)) (name_at (codes "name") d))
    (number_at 1 (greatest_value calc) (codes "value") d))
    (calc_at (codes "calc") d))
    (kind_at (codes "kind") d)
