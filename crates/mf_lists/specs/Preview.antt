-- What submitting a loan and paying it out on a day would give, before anybody agrees to it.
use Rattle.std.specs.Prelude.{ℕ, ◌-◌, List, Option, Result, Ok}
use Rattle.mf_base.specs.declared.fault.Fault.{Fault}
use Rattle.mf_catalog.specs.declared.charge.ChargeDef.{ChargeDef}
use Rattle.mf_catalog.specs.declared.product.Product.{Product}
use Rattle.mf_catalog.specs.declared.terms.Terms.{Terms}
use Rattle.mf_catalog.specs.Product.{lending, terms_of}
use Rattle.mf_schedule.specs.declared.instalment.FreshInstalment.{FreshInstalment}
use Rattle.mf_schedule.specs.Fresh.{fresh_schedule, fee_at_disbursement, total_owed}
use Rattle.mf_model.specs.Institution.{Catalogue, charge_in, product_in}
use Rattle.mf_model.specs.Outcomes.{unless_refused, where_found}
use Rattle.mf_lists.specs.declared.preview.LoanPreview.{LoanPreview}
use Rattle.mf_lists.specs.Rate.{yearly_rate}

-- what is told of a principal, the instalments that pay it back and the fee that is kept when it is paid out on a day.
-- Nothing is handed over where the fee is as much as the principal
abbrev pub preview_with : ℕ → ℕ → List FreshInstalment → ℕ → LoanPreview
preview_with principal day rows kept = record {
  instalments = rows;
  kept = kept;
  handed_over = principal - kept;
  owed = total_owed rows;
  rate = yearly_rate (principal - kept) day rows;
}

-- what is told of a loan on terms, paid out on a day
abbrev pub preview_by : Terms → ℕ → ℕ → ℕ → LoanPreview
preview_by terms principal n day =
    let rows = fresh_schedule terms principal n day in
    preview_with principal day rows (fee_at_disbursement terms principal rows)

-- what is told of a loan of a product: F7 where it is retired, then F8 outside its limits
abbrev pub preview_of : (ℕ → Option ChargeDef) → Product → ℕ → ℕ → ℕ → Result LoanPreview Fault
preview_of charges p principal n day =
    unless_refused (lending p principal n) (Ok (preview_by (terms_of charges p.members) principal n day))

-- what is told of a loan of the catalogue's product of this number: F4 where it isn't there
abbrev pub preview_in : Catalogue → ℕ → ℕ → ℕ → ℕ → Result LoanPreview Fault
preview_in k product principal n day =
    where_found (product_in k product) (λ p. preview_of (charge_in k) p principal n day)
