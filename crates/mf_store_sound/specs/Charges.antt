-- Rows of charges that are named.
use Rattle.std.specs.Prelude.{◌≡◌, ℕ, List, Option, Some, None}
use Rattle.mf_catalog.specs.declared.charge.ChargeKind.{ChargeKind}
use Rattle.mf_catalog.specs.Names.{kind_number}
use Rattle.mf_model.specs.Institution.{item_numbered}
use Rattle.mf_store_schema.specs.declared.charges.ChargeRow.{ChargeRow}

-- the charge that is named, if one is, has a row and is of this kind
abbrev pub HasRowOfKind : List ChargeRow → ChargeKind → Option ℕ → Type 0
HasRowOfKind charges kind None = Unit {0}
HasRowOfKind charges kind (Some number) =
    (c : ChargeRow) × (item_numbered charges number ≡ Some c) × (c.kind ≡ kind_number kind)
