-- Rows of products, and the charges that they name.
use Rattle.std.proofs.Common.{◌≡◌, ◌∙◌, ℕ, Bool, false, List, Option, Some, None, refl, ap, ◌==◌}
use Rattle.std.specs.Option.{option_map}
use Rattle.mf_catalog.specs.declared.charge.ChargeKind.{ChargeKind}
use Rattle.mf_catalog.specs.declared.charge.ChargeKind.TheVariants.{Disbursement, Instalment, Overdue, DueDate}
use Rattle.mf_catalog.specs.Product.{same_kind, has_kind}
use Rattle.mf_model.specs.Institution.{Catalogue, ListedCharge, charge_in, charge_def, item_numbered}
use Rattle.mf_store_schema.specs.declared.charges.ChargeRow.{ChargeRow}
use Rattle.mf_store_values.specs.Flat.{charge_as, numbered_from}
use Rattle.mf_catalog.specs.Names.{kind_number}
use Rattle.mf_store_sound.proofs.StoredLemmas.{value_found}

kinds_tested : (a b : ChargeKind) → (kind_number b == kind_number a) ≡ same_kind a b
kinds_tested Disbursement Disbursement = refl
kinds_tested Instalment Instalment = refl
kinds_tested Overdue Overdue = refl
kinds_tested DueDate DueDate = refl
kinds_tested a b = refl

-- the row of a charge, if there is one, is of this kind
abbrev pub is_kind : ℕ → Option ChargeRow → Bool
is_kind kind None = false
is_kind kind (Some row) = row.kind == kind

-- the row of a charge that is named was looked for
pub named_charge : (k : Catalogue) (rows : List ChargeRow) (found : Option ChargeRow) (number : ℕ) (wanted : ChargeKind)
    → numbered_from charge_as 1 k.charges ≡ rows → found ≡ item_numbered rows number
    → is_kind (kind_number wanted) found ≡ has_kind wanted (charge_in k number)
named_charge k rows found number wanted e is =
    ap (is_kind (kind_number wanted)) (value_found charge_as k.charges rows number found e is)
    ∙ go (item_numbered k.charges number)
  where
    go : (o : Option ListedCharge) → is_kind (kind_number wanted) (option_map (charge_as number) o)
        ≡ has_kind wanted (option_map (charge_def number) o)
    go None = refl
    go (Some c) = kinds_tested wanted c.kind
