-- How charges and products are shown.
use Rattle.std.specs.Prelude.{codes}
use Rattle.serde_json.specs.Data.{Data, boolean, string, object, Members, member, no_members}
use Rattle.mf_base.specs.Choices.{frequency_name}
use Rattle.mf_catalog.specs.Names.{kind_name, calc_name, method_name, strategy_name}
use Rattle.mf_catalog.specs.declared.charge.ChargeDef.{ChargeDef}
use Rattle.mf_catalog.specs.declared.product.Product.{Product}
use Rattle.mf_wire_replies.specs.Json.{whole, whole_or_null}

-- a charge as GET /charges/{charge} shows it
abbrev pub charge_data : ChargeDef → Data
charge_data charge = object
    (member (codes "calc") (string (calc_name charge.calc))
    (member (codes "charge") (whole charge.number)
    (member (codes "kind") (string (kind_name charge.kind))
    (member (codes "name") (string charge.name)
    (member (codes "value") (whole charge.value) no_members)))))

-- a product's members from overdue_charge on
abbrev pub product_end : Product → Members
product_end product =
    member (codes "overdue_charge") (whole_or_null product.members.overdue_charge)
    (member (codes "principal_grace") (whole product.members.principal_grace)
    (member (codes "product") (whole product.number)
    (member (codes "rate") (whole product.members.rate)
    (member (codes "retired") (boolean product.retired)
    (member (codes "strategy") (string (strategy_name product.members.strategy)) no_members)))))

-- a product's members from max_periods on
abbrev pub product_rest : Product → Members
product_rest product =
    member (codes "max_periods") (whole product.members.max_periods)
    (member (codes "max_principal") (whole product.members.max_principal)
    (member (codes "method") (string (method_name product.members.method))
    (member (codes "min_periods") (whole product.members.min_periods)
    (member (codes "min_principal") (whole product.members.min_principal)
    (member (codes "name") (string product.members.name) (product_end product))))))

-- a product as GET /products/{product} shows it
abbrev pub product_data : Product → Data
product_data product = object
    (member (codes "disbursement_charge") (whole_or_null product.members.disbursement_charge)
    (member (codes "every") (whole product.members.every)
    (member (codes "frequency") (string (frequency_name product.members.freq))
    (member (codes "instalment_charge") (whole_or_null product.members.instalment_charge)
    (member (codes "interest_grace") (whole product.members.interest_grace) (product_rest product))))))
