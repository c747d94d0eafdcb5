-- The conditions of each table's rows, in the order in which they are asked: the first that a row breaks is told.
use Rattle.std.specs.Prelude.{List, [], ◌∷◌}
use Rattle.mf_store_audit.specs.declared.finding.MetaFlaw.{MetaFlaw}
use Rattle.mf_store_audit.specs.declared.finding.MetaFlaw.TheVariants as meta
use Rattle.mf_store_audit.specs.declared.finding.ChargeFlaw.{ChargeFlaw}
use Rattle.mf_store_audit.specs.declared.finding.ChargeFlaw.TheVariants as charge
use Rattle.mf_store_audit.specs.declared.finding.ProductFlaw.{ProductFlaw}
use Rattle.mf_store_audit.specs.declared.finding.ProductFlaw.TheVariants as product
use Rattle.mf_store_audit.specs.declared.finding.OfficeFlaw.{OfficeFlaw}
use Rattle.mf_store_audit.specs.declared.finding.OfficeFlaw.TheVariants as office
use Rattle.mf_store_audit.specs.declared.finding.StaffFlaw.{StaffFlaw}
use Rattle.mf_store_audit.specs.declared.finding.StaffFlaw.TheVariants as staff
use Rattle.mf_store_audit.specs.declared.finding.ClientFlaw.{ClientFlaw}
use Rattle.mf_store_audit.specs.declared.finding.ClientFlaw.TheVariants as client
use Rattle.mf_store_audit.specs.declared.finding.LoanFlaw.{LoanFlaw}
use Rattle.mf_store_audit.specs.declared.finding.LoanFlaw.TheVariants as loan
use Rattle.mf_store_audit.specs.declared.finding.Doubt.{Doubt}
use Rattle.mf_store_audit.specs.declared.finding.Doubt.TheVariants as doubt
use Rattle.mf_store_audit.specs.declared.finding.EntryFlaw.{EntryFlaw}
use Rattle.mf_store_audit.specs.declared.finding.EntryFlaw.TheVariants as entry
use Rattle.mf_store_audit.specs.declared.finding.ReceiptFlaw.{ReceiptFlaw}
use Rattle.mf_store_audit.specs.declared.finding.ReceiptFlaw.TheVariants as receipt

-- the conditions of a row of meta
abbrev pub meta_flaws : List MetaFlaw
meta_flaws = meta.Key ∷ meta.Schema ∷ meta.Day ∷ []

-- the conditions of a row of a charge
abbrev pub charge_flaws : List ChargeFlaw
charge_flaws = charge.Number ∷ charge.Limit ∷ charge.Name ∷ charge.Kind ∷ charge.Calc ∷ charge.Value ∷ []

-- the conditions of a row of a product
abbrev pub product_flaws : List ProductFlaw
product_flaws =
    product.Number ∷ product.Limit ∷ product.Name ∷ product.Method ∷ product.Frequency ∷ product.Strategy
    ∷ product.Retired ∷ product.Rate ∷ product.Every ∷ product.PrincipalGrace ∷ product.InterestGrace
    ∷ product.MinPrincipal ∷ product.MaxPrincipal ∷ product.MinPeriods ∷ product.MaxPeriods
    ∷ product.PrincipalOrder ∷ product.PeriodsOrder ∷ product.PrincipalGraceOrder ∷ product.InterestGraceOrder
    ∷ product.DisbursementCharge ∷ product.InstalmentCharge ∷ product.OverdueCharge ∷ []

-- the conditions of a row of an office
abbrev pub office_flaws : List OfficeFlaw
office_flaws = office.Order ∷ office.Number ∷ office.Name ∷ office.Parent ∷ office.Text ∷ office.Depth ∷ []

-- the conditions of a row of a member of staff
abbrev pub staff_flaws : List StaffFlaw
staff_flaws = staff.Order ∷ staff.Office ∷ staff.Number ∷ staff.Limit ∷ staff.Name ∷ staff.Role ∷ []

-- the conditions of a row of a client
abbrev pub client_flaws : List ClientFlaw
client_flaws = client.Order ∷ client.Office ∷ client.Number ∷ client.Limit ∷ client.Name ∷ []

-- the conditions of a row of a loan
abbrev pub loan_flaws : List LoanFlaw
loan_flaws =
    loan.Order ∷ loan.Office ∷ loan.Number ∷ loan.Limit ∷ loan.Client ∷ loan.Product ∷ loan.Principal
    ∷ loan.Periods ∷ loan.Stage ∷ loan.Approved ∷ loan.Disbursed ∷ loan.Days ∷ []

-- the conditions of a row of an entry
abbrev pub entry_flaws : List EntryFlaw
entry_flaws =
    entry.Order ∷ entry.Loan ∷ entry.Undisbursed ∷ entry.Number ∷ entry.Limit ∷ entry.Kind ∷ entry.Day
    ∷ entry.Early ∷ entry.Late ∷ entry.Amount ∷ entry.Portion ∷ entry.Reversed ∷ entry.Columns ∷ entry.Receipt
    ∷ entry.Seal ∷ entry.Staff ∷ entry.Unlisted ∷ []

-- the conditions of a row of a receipt
abbrev pub receipt_flaws : List ReceiptFlaw
receipt_flaws = receipt.Order ∷ receipt.Entry ∷ []

-- what makes an entry of sound rows suspect
abbrev pub doubts : List Doubt
doubts = doubt.Office ∷ doubt.Role ∷ []
