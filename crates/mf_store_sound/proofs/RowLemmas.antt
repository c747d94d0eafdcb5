-- Rows of members of staff and of charges.
use Rattle.std.proofs.Common.{◌≡◌, ◌↔◌, ◌∙◌, ℕ, Bool, List, Some, IsTrue, sym, ap, subst}
use Rattle.std.proofs.lemmas.Option.{same_Some}
use Rattle.mf_office.specs.declared.staff.Role.{Role}
use Rattle.mf_model.specs.Institution.{ListedCharge, Staff}
use Rattle.mf_model.specs.Sound.{IsName, IsSoundCharge, IsValue}
use Rattle.mf_store_schema.specs.declared.staff.StaffRow.{StaffRow}
use Rattle.mf_store_schema.specs.declared.charges.ChargeRow.{ChargeRow}
use Rattle.mf_store_values.specs.Flat.{staff_in, charge_as}
use Rattle.mf_office.specs.Roles.{role_number}
use Rattle.mf_store_values.specs.Decoded.{charge_columns_of}
use Rattle.mf_store_values.specs.declared.catalogue.ChargeColumns.{ChargeColumns}
use Rattle.mf_store_sound.specs.Stored.{IsRowOf}

pub member_is : (office number : ℕ) (row : StaffRow) (role : Role) (name : List ℕ) (b : Bool) → row.office ≡ office
    → row.number ≡ number → role_number role ≡ row.role → name ≡ row.name → (IsTrue b ↔ IsName name) → IsTrue b
    ↔ IsRowOf (staff_in office) (λ (s : Staff). IsName s.name) number row
member_is office number row role name b o n r named h = (
  λ yes. record {
    value = record { name = row.name; role = role };
    passes = subst IsName named (h.0 yes);
    row_is = λ k. record { office = sym o k; number = sym n k; name = row.name; role = r k };
  },
  λ are. h.1 (subst IsName (ap (λ (x : StaffRow). x.name) are.row_is ∙ sym named) are.passes),
)

pub charge_is : (number : ℕ) (row : ChargeRow) (columns : ChargeColumns) (b : Bool) → row.number ≡ number
    → IsName row.name
    → (c : ListedCharge) × (charge_as row.number c ≡ row) × (columns ≡ charge_columns_of c)
    → ((n : ℕ) (c : ListedCharge) → charge_as n c ≡ row → Some columns ≡ Some (charge_columns_of c))
    → (IsTrue b ↔ IsValue columns.calc columns.value) → IsTrue b ↔ IsRowOf charge_as IsSoundCharge number row
charge_is number row columns b n name of every h = (
  λ yes. record {
    value = of.0;
    passes = record { name = subst IsName (λ t. (sym of.1 t).name) name; value = subst IsIn of.2 (h.0 yes) };
    row_is = (λ t. charge_as (sym n t) of.0) ∙ of.1;
  },
  λ are.
      let same = same_Some columns (charge_columns_of are.value) (every number are.value are.row_is) in
      h.1 (subst IsIn (sym same) are.passes.value),
)
  where
    IsIn : ChargeColumns → Type 0
    IsIn c = IsValue c.calc c.value
