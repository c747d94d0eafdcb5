-- What every institution that comes about keeps true, and what is asked of the requests that keep it so.
use Rattle.std.specs.Prelude.{◌≡◌, ℕ, ◌≤◌, Bool, true, false, not, ◌&&◌, List, [], length, is_some, Option, Some, None}
use Rattle.std.specs.Prelude.{◌==◌, nat_le, IfSome}
use Rattle.std.specs.List.{AllByRecursion, list_all}
use Rattle.std.specs.Str.{IsUtf8, chars}
use Rattle.mf_base.specs.DayText.{last_entered_day}
use Rattle.mf_office.specs.Numbers.{IsNumberUpTo}
use Rattle.mf_office.specs.Texts.{IsAccount}
use Rattle.mf_model.specs.declared.request.Request.{Request}
use Rattle.mf_catalog.specs.declared.charge.Calc.{Calc}
use Rattle.mf_catalog.specs.declared.charge.ChargeDef.{ChargeDef}
use Rattle.mf_catalog.specs.declared.product.Product.{Product}
use Rattle.mf_catalog.specs.declared.product.ProductMembers.{ProductMembers}
use Rattle.mf_catalog.specs.Limits.{greatest_amount, most_periods, greatest_value}
use Rattle.mf_catalog.specs.Product.{AreMembersWithinLimits, is_consistent, allows}
use Rattle.mf_office.specs.declared.caller.Caller.{Caller}
use Rattle.mf_account.specs.declared.entry.Entry.{Entry}
use Rattle.mf_account.specs.Loan.{AreEntries}
use Rattle.mf_model.specs.declared.loan.Stage.{Stage}
use Rattle.mf_model.specs.declared.loan.Stage.TheVariants.{Submitted, Approved, Disbursed, Withdrawn, Rejected}
use Rattle.mf_model.specs.declared.request.Request.TheVariants as request
use Rattle.mf_model.specs.declared.request.CatalogueRequest.{CatalogueRequest}
use Rattle.mf_model.specs.declared.request.CatalogueRequest.TheVariants.{ShowDay, SetDay, AddCharge, ShowCharge}
use Rattle.mf_model.specs.declared.request.CatalogueRequest.TheVariants.{AddProduct, ShowProduct, RetireProduct}
use Rattle.mf_model.specs.declared.request.OfficeRequest.{OfficeRequest}
use Rattle.mf_model.specs.declared.request.OfficeRequest.TheVariants.{AddStaff, AddClient, ShowClient, SubmitLoan}
use Rattle.mf_model.specs.declared.request.OfficeRequest.TheVariants.{ListLoans}
use Rattle.mf_model.specs.declared.request.Application.{Application}
use Rattle.mf_model.specs.declared.request.Repayment.{Repayment}
use Rattle.mf_model.specs.declared.request.LoanRequest.{LoanRequest}
use Rattle.mf_model.specs.declared.request.LoanRequest.TheVariants.{Show, ShowInstalments, ShowEntries, Take, Repay}
use Rattle.mf_model.specs.declared.request.LoanRequest.TheVariants.{ChargeFee, Post, Reverse}
use Rattle.mf_model.specs.declared.request.Posting.{Posting}
use Rattle.mf_model.specs.declared.request.Posting.TheVariants.{Penalty, Waiver, WriteOff, Refund}
use Rattle.mf_model.specs.Institution.{Institution, Catalogue, ListedCharge, ListedProduct, Staff, Rows, Office, Ledger}
use Rattle.mf_model.specs.Institution.{staff_member}
use Rattle.mf_model.specs.Institution.{item_numbered, charge_in, product_in}
use Rattle.mf_model.specs.Stages.{disbursed_on, IsStepInRange}
use Rattle.mf_account.specs.Receipts.{IsReceipt}
use Rattle.mf_model.specs.Receipts.{uses_from, AreApart}
use Rattle.mf_model.specs.Tree.{IsTree}
use Rattle.mf_model.specs.Run.{Line}

-- no control character: not below U+0020, and not U+007F
abbrev pub is_plain : ℕ → Bool
is_plain c = nat_le 32 c && not (c == 127)

-- a name is a text of 1 to 100 characters, none of them a control character
pub record IsName (name : List ℕ) : Type 0 where
  pub text : IsUtf8 name
  pub some : 1 ≤ length (chars name)
  pub most : length (chars name) ≤ 100
  pub plain : list_all is_plain (chars name) ≡ true

-- a charge's value lies within the limits of its kind of computing
pub record IsValue (calc : Calc) (value : ℕ) : Type 0 where
  pub some : 1 ≤ value
  pub most : value ≤ greatest_value calc

-- a charge with a name, within the limits
pub record IsSoundCharge (c : ListedCharge) : Type 0 where
  pub name : IsName c.name
  pub value : IsValue c.calc c.value

-- the members of a product that is read
pub record AreMembers (p : ProductMembers) : Type 0 where
  pub name : IsName p.name
  pub limits : AreMembersWithinLimits p

-- a product is consistent, and names charges that are there and of the right kinds
pub record IsSoundOffer (charges : ℕ → Option ChargeDef) (p : ListedProduct) : Type 0 where
  pub members : AreMembers p.members
  pub consistent : is_consistent charges p.members ≡ true

-- the business day is at most 2099-12-31
pub record IsSoundCatalogue (k : Catalogue) : Type 0 where
  pub day : k.day ≤ last_entered_day
  pub charge_limit : length k.charges ≤ 999
  pub charges : AllByRecursion IsSoundCharge k.charges
  pub product_limit : length k.products ≤ 999
  pub products : AllByRecursion (IsSoundOffer (charge_in k)) k.products

-- the product is there and its limits allow this
abbrev pub lends : Option Product → ℕ → ℕ → Bool
lends None principal periods = false
lends (Some p) principal periods = allows p.members principal periods

-- there is such a member of staff, in whatever office
abbrev pub is_staff : List Office → Caller → Bool
is_staff fs c = is_some (staff_member fs c)

-- the day of approval is not after that of disbursement, and neither is after the business day
abbrev pub IsStageBy : ℕ → Stage → Type 0
IsStageBy today Submitted = Unit {0}
IsStageBy today (Approved day) = day ≤ today
IsStageBy today (Disbursed approved day) = (approved ≤ day) × (day ≤ today)
IsStageBy today Withdrawn = Unit {0}
IsStageBy today Rejected = Unit {0}

-- an entry's day is not after the business day, it was entered by somebody who is there, and its receipt is one
pub record IsEntryBy (today : ℕ) (staffed : Caller → Bool) (e : Entry) : Type 0 where
  pub day : e.day ≤ today
  pub staff : staffed e.staff ≡ true
  pub receipt : IfSome e.receipt IsReceipt

-- the entries of a loan of so many periods that is disbursed on a day: its account can be worked out from them
pub record AreEntered (today : ℕ) (staffed : Caller → Bool) (periods day : ℕ) (entries : List Entry) : Type 0 where
  pub lawful : AreEntries periods day entries
  pub each : AllByRecursion (IsEntryBy today staffed) entries

-- a loan has entries only once it is disbursed
abbrev pub AreEntriesBy : ℕ → (Caller → Bool) → ℕ → Option ℕ → List Entry → Type 0
AreEntriesBy today staffed periods None entries = entries ≡ []
AreEntriesBy today staffed periods (Some day) entries = AreEntered today staffed periods day entries

-- a loan's client is there, its product is there and allows its principal and periods, retired or not, its days are in
-- order, and so are its entries
pub record IsSoundLoan (k : Catalogue) (staffed : Caller → Bool) (clients : List (List ℕ)) (l : Ledger) : Type 0 where
  pub client : is_some (item_numbered clients l.loan.client) ≡ true
  pub product : lends (product_in k l.loan.product) l.loan.principal l.loan.periods ≡ true
  pub stage : IsStageBy k.day l.loan.stage
  pub entries : AreEntriesBy k.day staffed l.loan.periods (disbursed_on l.loan.stage) l.entries

-- an office has no more rows than the limits allow, each name is one, each loan is sound, and no receipt stands twice
pub record IsSoundRows (k : Catalogue) (staffed : Caller → Bool) (rows : Rows) : Type 0 where
  pub staff_limit : length rows.staff ≤ 9999
  pub staff_names : AllByRecursion (λ (s : Staff). IsName s.name) rows.staff
  pub client_limit : length rows.clients ≤ 999999
  pub client_names : AllByRecursion IsName rows.clients
  pub loan_limit : length rows.loans ≤ 999999
  pub loans : AllByRecursion (IsSoundLoan k staffed rows.clients) rows.loans
  pub receipts : AreApart (uses_from 1 rows.loans)

-- an office whose rows are in range and name what is there
pub record IsSoundOffice (k : Catalogue) (staffed : Caller → Bool) (f : Office) : Type 0 where
  pub number : IsNumberUpTo 9999 f.number
  pub name : IsName f.name
  pub rows : IsSoundRows k staffed f.rows

-- an office is sound among all offices, since staff of others enter into its loans too
pub record IsSound (i : Institution) : Type 0 where
  pub catalogue : IsSoundCatalogue i.catalogue
  pub tree : IsTree i.offices
  pub each : AllByRecursion (IsSoundOffice i.catalogue (is_staff i.offices)) i.offices

-- the members of a request lie in their ranges, as they do of each that was read
abbrev pub IsCatalogueInRange : CatalogueRequest → Type 0
IsCatalogueInRange ShowDay = Unit {0}
IsCatalogueInRange (SetDay day) = day ≤ last_entered_day
IsCatalogueInRange (AddCharge name kind calc value) = IsName name × IsValue calc value
IsCatalogueInRange (ShowCharge charge) = charge ≤ 999999999
IsCatalogueInRange (AddProduct members) = AreMembers members
IsCatalogueInRange (ShowProduct product) = product ≤ 999999999
IsCatalogueInRange (RetireProduct product) = product ≤ 999999999

-- the members of an application, in range
abbrev pub IsApplication : Application → Type 0
IsApplication asked = IsNumberUpTo 999999 asked.client × (asked.product ≤ 999999999) × ((1 ≤ asked.principal)
    × (asked.principal ≤ greatest_amount)) × ((1 ≤ asked.periods) × (asked.periods ≤ most_periods))

-- the members of a request for an office, in range
abbrev pub IsOfficeInRange : ℕ → OfficeRequest → Type 0
IsOfficeInRange office (AddStaff name role) = IsNumberUpTo 9999 office × IsName name
IsOfficeInRange office (AddClient name) = IsNumberUpTo 9999 office × IsName name
IsOfficeInRange office (ShowClient client) = IsNumberUpTo 9999 office × IsNumberUpTo 999999 client
IsOfficeInRange office (SubmitLoan asked) = IsNumberUpTo 9999 office × IsApplication asked
IsOfficeInRange office (ListLoans after) = (office ≤ 999999999) × (after ≤ 999999)

-- the members of a repayment, in range
abbrev pub IsRepayment : Repayment → Type 0
IsRepayment asked = ((1 ≤ asked.amount) × (asked.amount ≤ greatest_amount)) × (asked.day ≤ last_entered_day)
    × IfSome asked.receipt IsReceipt

-- an instalment is named by a number from 1 on
abbrev pub IsPostingInRange : Posting → Type 0
IsPostingInRange (Penalty instalment) = (1 ≤ instalment) × (instalment ≤ 999999999)
IsPostingInRange (Waiver instalment portion) = (1 ≤ instalment) × (instalment ≤ 999999999)
IsPostingInRange WriteOff = Unit {0}
IsPostingInRange Refund = Unit {0}

-- the members of a request for a loan, in range
abbrev pub IsLoanInRange : LoanRequest → Type 0
IsLoanInRange Show = Unit {0}
IsLoanInRange ShowInstalments = Unit {0}
IsLoanInRange ShowEntries = Unit {0}
IsLoanInRange (Take step) = IsStepInRange step
IsLoanInRange (Repay asked) = IsRepayment asked
IsLoanInRange (ChargeFee charge due) = (charge ≤ 999999999) × (due ≤ last_entered_day)
IsLoanInRange (Post asked) = IsPostingInRange asked
IsLoanInRange (Reverse entry) = entry ≤ 999999999

-- the members of a request, in range
abbrev pub IsInRange : Request → Type 0
IsInRange (request.Unreadable flaw) = Unit {0}
IsInRange (request.Catalogue asked) = IsCatalogueInRange asked
IsInRange (request.Office office asked) = IsOfficeInRange office asked
IsInRange (request.Loan loan asked) = IsAccount loan × IsLoanInRange asked
IsInRange request.SeenOffices = Unit {0}
IsInRange request.SeenArrears = Unit {0}
IsInRange (request.NewOffice number parent name) = IsNumberUpTo 9999 number × IsNumberUpTo 9999 parent × IsName name

-- the members of each line's request, in range
abbrev pub AreInRange : List Line → Type 0
AreInRange ls = AllByRecursion (λ (l : Line). IsInRange l.call.request) ls
