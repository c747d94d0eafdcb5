-- What is said of a row that breaks a condition.
use Rattle.std.specs.Prelude.{ℕ, ℤ, pos, List, [], ◌++◌, codes, decimal, ◌==◌, if◌then◌else◌, Option, Some, None}
use Rattle.std.specs.Prelude.{int_lt, nat_lt, find}
use Rattle.std.specs.Ordering.{int_eq}
use Rattle.std.specs.Fmt.{signed_decimal}
use Rattle.mf_model.specs.Institution.{item_numbered}
use Rattle.mf_office.specs.Keys.{child_key}
use Rattle.mf_store_schema.specs.declared.entries.EntryRow.{EntryRow}
use Rattle.mf_store_schema.specs.declared.loans.LoanRow.{LoanRow}
use Rattle.mf_store_schema.specs.declared.offices.OfficeRow.{OfficeRow}
use Rattle.mf_store_schema.specs.declared.products.ProductRow.{ProductRow}
use Rattle.mf_store_audit.specs.declared.finding.MetaFlaw.{MetaFlaw}
use Rattle.mf_store_audit.specs.declared.finding.MetaFlaw.TheVariants as meta
use Rattle.mf_store_audit.specs.declared.finding.ChargeFlaw.{ChargeFlaw}
use Rattle.mf_store_audit.specs.declared.finding.ChargeFlaw.TheVariants as charge
use Rattle.mf_store_audit.specs.declared.finding.ProductFlaw.{ProductFlaw}
use Rattle.mf_store_audit.specs.declared.finding.ProductFlaw.TheVariants as product
use Rattle.mf_store_audit.specs.declared.finding.OfficeFlaw.{OfficeFlaw}
use Rattle.mf_store_audit.specs.declared.finding.OfficeFlaw.TheVariants as office
use Rattle.mf_store_audit.specs.declared.finding.StaffFlaw.{StaffFlaw}
use Rattle.mf_store_audit.specs.declared.finding.StaffFlaw.TheVariants as staff
use Rattle.mf_store_audit.specs.declared.finding.ClientFlaw.{ClientFlaw}
use Rattle.mf_store_audit.specs.declared.finding.ClientFlaw.TheVariants as client
use Rattle.mf_store_audit.specs.declared.finding.LoanFlaw.{LoanFlaw}
use Rattle.mf_store_audit.specs.declared.finding.LoanFlaw.TheVariants as loan
use Rattle.mf_store_audit.specs.declared.finding.Doubt.{Doubt}
use Rattle.mf_store_audit.specs.declared.finding.Doubt.TheVariants as doubt
use Rattle.mf_store_audit.specs.declared.finding.EntryFlaw.{EntryFlaw}
use Rattle.mf_store_audit.specs.declared.finding.EntryFlaw.TheVariants as entry
use Rattle.mf_store_audit.specs.declared.finding.ReceiptFlaw.{ReceiptFlaw}
use Rattle.mf_store_audit.specs.declared.finding.ReceiptFlaw.TheVariants as receipt
use Rattle.microloan_audit.specs.Quoted.{quoted}

-- of a row that is not numbered as it should be
abbrev pub not_next : List ℕ
not_next = codes "its number is not the next after that of the row before it"

-- of a row that stands where its key doesn't put it
abbrev pub out_of_order : List ℕ
out_of_order = codes "it does not come after the row before it"

-- of a name
abbrev pub no_name : List ℕ
no_name = codes "its name is not 1 to 100 characters, none of them a control character"

-- of a row whose office is not there
abbrev pub no_office : List ℕ
no_office = codes "its office is not there"

-- of rows that replaying the entries does not give
abbrev pub not_replayed : List ℕ
not_replayed = codes "not what replaying the entries gives"

-- of a row of meta
abbrev pub meta_words : MetaFlaw → List ℕ
meta_words meta.Key = codes "its key is not 1"
meta_words meta.Schema = codes "its schema is not that of these tables"
meta_words meta.Day = codes "its business day is no day up to 2099-12-31"

-- of a row of a charge
abbrev pub charge_words : ChargeFlaw → List ℕ
charge_words charge.Number = not_next
charge_words charge.Limit = codes "its number is above 999"
charge_words charge.Name = no_name
charge_words charge.Kind = codes "its kind is not 1 to 4"
charge_words charge.Calc = codes "its way of computing is not 1 to 4"
charge_words charge.Value =
    codes "its value is not 1 to 1000000000000 cents, or 1 to 10000 hundredths of a percent"

-- of a row of a product
abbrev pub product_words : ProductFlaw → List ℕ
product_words product.Number = not_next
product_words product.Limit = codes "its number is above 999"
product_words product.Name = no_name
product_words product.Method = codes "its method is not 1 to 3"
product_words product.Frequency = codes "its frequency is not 1 or 2"
product_words product.Strategy = codes "its strategy is not 1 to 4"
product_words product.Retired = codes "it is neither retired (1) nor not (0)"
product_words product.Rate = codes "its rate is above 100000 hundredths of a percent"
product_words product.Every = codes "its due days are not 1 to 52 weeks or 1 to 12 months apart"
product_words product.PrincipalGrace = codes "its grace on principal is above 359 periods"
product_words product.InterestGrace = codes "its grace on interest is above 359 periods"
product_words product.MinPrincipal = codes "its least principal is not 1 to 1000000000000 cents"
product_words product.MaxPrincipal = codes "its greatest principal is not 1 to 1000000000000 cents"
product_words product.MinPeriods = codes "its least number of periods is not 1 to 360"
product_words product.MaxPeriods = codes "its greatest number of periods is not 1 to 360"
product_words product.PrincipalOrder = codes "its least principal is above its greatest"
product_words product.PeriodsOrder = codes "its least number of periods is above its greatest"
product_words product.PrincipalGraceOrder =
    codes "its grace on principal is not below its least number of periods"
product_words product.InterestGraceOrder =
    codes "its grace on interest is not below its least number of periods"
product_words product.DisbursementCharge =
    codes "its charge at disbursement is not there, or is of another kind"
product_words product.InstalmentCharge =
    codes "its charge with each instalment is not there, or is of another kind"
product_words product.OverdueCharge =
    codes "its charge for an overdue instalment is not there, or is of another kind"

-- of a row whose parent is not as it should be
abbrev pub parent_words : OfficeRow → Option ℕ → List ℕ
parent_words row None = codes "it has no parent, and the head office is 1"
parent_words row (Some parent) = if row.number == 1 then codes "the head office has a parent, " ++ decimal parent
    else codes "its parent " ++ (decimal parent ++ codes " is not there")

-- of a row whose hierarchy text is not the one that its parent gives, by the parent's row
abbrev pub given_words : OfficeRow → Option OfficeRow → List ℕ
given_words row None = parent_words row row.parent
given_words row (Some above) = codes "hierarchy text " ++ (quoted row.hkey ++ (codes ", its parent gives "
    ++ quoted (child_key above.hkey row.number)))

-- the same by the parent's number, among all offices
abbrev pub hierarchy_words : List OfficeRow → OfficeRow → Option ℕ → List ℕ
hierarchy_words offices row None =
    codes "hierarchy text " ++ (quoted row.hkey ++ codes ", that of the head office is \".\"")
hierarchy_words offices row (Some parent) =
    given_words row (find (λ (above : OfficeRow). above.number == parent) offices)

-- of a row of an office, among all of them
abbrev pub office_words : List OfficeRow → OfficeFlaw → OfficeRow → List ℕ
office_words offices office.Order row = out_of_order
office_words offices office.Number row = codes "its number is not 1 to 9999"
office_words offices office.Name row = no_name
office_words offices office.Parent row = parent_words row row.parent
office_words offices office.Text row = hierarchy_words offices row row.parent
office_words offices office.Depth row = codes "it lies more than five steps below the head office"

-- of a row of a member of staff
abbrev pub staff_words : StaffFlaw → List ℕ
staff_words staff.Order = out_of_order
staff_words staff.Office = no_office
staff_words staff.Number = not_next
staff_words staff.Limit = codes "its number is above 9999"
staff_words staff.Name = no_name
staff_words staff.Role = codes "its role is not 1 to 3"

-- of a row of a client
abbrev pub client_words : ClientFlaw → List ℕ
client_words client.Order = out_of_order
client_words client.Office = no_office
client_words client.Number = not_next
client_words client.Limit = codes "its number is above 999999"
client_words client.Name = no_name

-- of a loan whose product is not there
abbrev pub no_product_words : LoanRow → List ℕ
no_product_words row = codes "its product " ++ (decimal row.product ++ codes " is not there")

-- of a limit of the loan's product: one of a unit, or several
abbrev pub limit_words : List ℕ → ℤ → List ℕ → List ℕ
limit_words bound count unit = codes "its product lends " ++ (bound ++ (codes " " ++ (signed_decimal count
    ++ (codes " " ++ (unit ++ (if int_eq count (pos 1) then [] else codes "s"))))))

-- of a principal that the loan's product does not lend
abbrev pub principal_words : LoanRow → Option ProductRow → List ℕ
principal_words row None = no_product_words row
principal_words row (Some p) = if int_lt row.principal p.min_principal
    then limit_words (codes "at least") p.min_principal (codes "cent")
    else limit_words (codes "at most") p.max_principal (codes "cent")

-- of a number of periods that the loan's product does not lend
abbrev pub periods_words : LoanRow → Option ProductRow → List ℕ
periods_words row None = no_product_words row
periods_words row (Some p) = if nat_lt row.periods p.min_periods
    then limit_words (codes "at least") (pos p.min_periods) (codes "period")
    else limit_words (codes "at most") (pos p.max_periods) (codes "period")

-- of a row of a loan, of these products
abbrev pub loan_words : List ProductRow → LoanFlaw → LoanRow → List ℕ
loan_words products loan.Order row = out_of_order
loan_words products loan.Office row = no_office
loan_words products loan.Number row = not_next
loan_words products loan.Limit row = codes "its number is above 999999"
loan_words products loan.Client row = codes "its client " ++ (decimal row.client ++ codes " is not there")
loan_words products loan.Product row = no_product_words row
loan_words products loan.Principal row = principal_words row (item_numbered products row.product)
loan_words products loan.Periods row = periods_words row (item_numbered products row.product)
loan_words products loan.Stage row = codes "its status " ++ (decimal row.stage ++ codes " is none")
loan_words products loan.Approved row = codes "its day of approval does not fit its status, or is no day"
loan_words products loan.Disbursed row = codes "its day of disbursement does not fit its status, or is no day"
loan_words products loan.Days row = codes "its days are out of order, or after the business day"

-- of a row of an entry
abbrev pub entry_words : EntryFlaw → List ℕ
entry_words entry.Order = out_of_order
entry_words entry.Loan = codes "its loan is not there"
entry_words entry.Undisbursed = codes "its loan is not disbursed"
entry_words entry.Number = not_next
entry_words entry.Limit = codes "its number is above 9999"
entry_words entry.Kind = codes "its kind is not 1 to 6"
entry_words entry.Day = codes "its day is no day up to 2099-12-31"
entry_words entry.Early = codes "its day is before its loan's disbursement"
entry_words entry.Late = codes "its day is after the business day"
entry_words entry.Amount = codes "its amount is below 0"
entry_words entry.Portion = codes "its portion is not 1 to 4"
entry_words entry.Reversed = codes "it is neither reversed (1) nor standing (0)"
entry_words entry.Columns =
    codes "its amount, instalment, portion and receipt are not those of an entry of its kind"
entry_words entry.Receipt = codes "its receipt is not the text of one"
entry_words entry.Seal = codes "a write-off or refund that stands, and another standing entry comes after it"
entry_words entry.Staff = codes "the member of staff who entered it is not there"
entry_words entry.Unlisted = codes "its receipt is not among the receipts as this entry's"

-- of a row of a suspect entry
abbrev pub doubt_words : Doubt → EntryRow → List ℕ
doubt_words doubt.Office row = row.staff ++ codes ", who entered it, can't see the loan"
doubt_words doubt.Role row = row.staff ++ codes ", who entered it, may not enter this kind by their role"

-- of a row of a receipt
abbrev pub receipt_words : ReceiptFlaw → List ℕ
receipt_words receipt.Order = out_of_order
receipt_words receipt.Entry = codes "the entry that it names does not carry it"
