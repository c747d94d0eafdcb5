-- Days of a new institution, line by line, with what each line is answered.
use Rattle.std.specs.Prelude.{ℕ, false, true, List, [], ◌∷◌, codes, Option, Some, None, Result, Ok, Err}
use Rattle.mf_base.specs.declared.fault.Fault.{Fault}
use Rattle.mf_base.specs.declared.fault.Fault.TheVariants.{F1, F2, F3, F4, F5, F6, F7, F8, F9, F16, F17, F18}
use Rattle.mf_office.specs.declared.staff.Role.TheVariants.{Teller, Officer, Manager}
use Rattle.mf_office.specs.declared.caller.Caller.{Caller}
use Rattle.mf_office.specs.declared.account.Account.{Account}
use Rattle.mf_model.specs.declared.request.Request.{Request}
use Rattle.mf_model.specs.declared.request.Flaw.TheVariants.{Malformed, NoRoute, NoMethod}
use Rattle.mf_model.specs.declared.request.CatalogueRequest.TheVariants.{ShowDay, SetDay, AddCharge, ShowCharge}
use Rattle.mf_model.specs.declared.request.CatalogueRequest.TheVariants.{AddProduct, ShowProduct, RetireProduct}
use Rattle.mf_model.specs.declared.request.OfficeRequest.TheVariants.{AddStaff, AddClient, ShowClient, SubmitLoan}
use Rattle.mf_model.specs.declared.request.OfficeRequest.TheVariants.{ListLoans}
use Rattle.mf_model.specs.declared.request.LoanRequest.TheVariants.{Show, Take}
use Rattle.mf_model.specs.declared.request.LoanStep.TheVariants.{Plain}
use Rattle.mf_model.specs.declared.request.PlainStep.{PlainStep}
use Rattle.mf_model.specs.declared.request.PlainStep.TheVariants.{Approve, Reject, Withdraw, UndoApproval}
use Rattle.mf_model.specs.declared.request.Request.TheVariants.{Unreadable, Catalogue, Office, Loan, SeenOffices}
use Rattle.mf_model.specs.declared.request.Request.TheVariants.{NewOffice}
use Rattle.mf_office.specs.declared.office.Office.{Office as OfficeShown}
use Rattle.mf_model.specs.declared.loan.Statement.{Statement}
use Rattle.mf_model.specs.Accounts.{no_balances}
use Rattle.mf_model.specs.declared.reply.Reply.{Reply}
use Rattle.mf_model.specs.declared.reply.Reply.TheVariants.{OfficeMade, Offices, StaffMade, ClientMade, ClientShown}
use Rattle.mf_model.specs.declared.reply.Reply.TheVariants.{DayShown, DaySet, ChargeMade, ChargeShown, ProductMade}
use Rattle.mf_model.specs.declared.reply.Reply.TheVariants as reply
use Rattle.mf_model.specs.declared.reply.Reply.TheVariants.{ProductShown, ProductRetired, LoanMade}
use Rattle.mf_model.specs.declared.reply.Reply.TheVariants.{LoansShown}
use Rattle.mf_model.specs.declared.reply.LoanReply.TheVariants.{Shown, Status}
use Rattle.mf_base.specs.declared.day.Freq.TheVariants.{Months}
use Rattle.mf_catalog.specs.declared.charge.ChargeKind.TheVariants.{DueDate}
use Rattle.mf_catalog.specs.declared.charge.Calc.TheVariants.{Flat}
use Rattle.mf_catalog.specs.declared.product.ProductMembers.{ProductMembers}
use Rattle.mf_catalog.specs.declared.terms.Method.TheVariants.{EqualPrincipal}
use Rattle.mf_catalog.specs.declared.terms.StrategyName.TheVariants.{MifosStandard}
use Rattle.mf_model.specs.Calls.{nothing_received}
use Rattle.mf_model.specs.Run.{Line}

-- a member of staff as a caller
abbrev pub caller : ℕ → ℕ → Option Caller
caller office number = Some (record { office = office; staff = number })

-- the number of a client or a loan of an office
abbrev pub account : ℕ → ℕ → Account
account office number = record { office = office; number = number }

-- requests of office x, and on the first loan of office 1
abbrev pub enter_client : ℕ → List ℕ → Request
enter_client x name = Office x (AddClient name)

-- a client is asked for
abbrev pub client_shown_request : ℕ → ℕ → Request
client_shown_request x n = Office x (ShowClient n)

-- the first client of the head office applies for a loan
abbrev pub submit_request : ℕ → ℕ → ℕ → Request
submit_request product principal periods =
    Office 1 (SubmitLoan (record { client = 1; product = product; principal = principal; periods = periods }))

-- a step of the first loan
abbrev pub take_step : PlainStep → Request
take_step step = Loan (account 1 1) (Take (Plain step))

-- the first loan's status is told
abbrev pub status_reply : ℕ → Result Reply Fault
status_reply status = Ok (reply.Loan (account 1 1) (Status status))

-- a line that is not given up, and what it is answered
abbrev pub row : Option Caller → Request → Result Reply Fault → Line × Result Reply Fault
row caller request reply = (
  record { call = record { caller = caller; request = request; received = nothing_received }; given_up = false },
  reply,
)

-- a client is entered and read
abbrev pub first_day : List (Line × Result Reply Fault)
first_day =
    row (caller 1 1) (enter_client 1 (codes "Amina")) (Ok (ClientMade (account 1 1)))
    ∷ row (caller 1 1) (client_shown_request 1 1) (Ok (ClientShown (account 1 1) (codes "Amina")))
    ∷ row (caller 1 1) (client_shown_request 1 2) (Err F4)
    ∷ row (caller 1 1) (Unreadable Malformed) (Err F1)
    ∷ row (caller 1 1) (enter_client 2 (codes "B")) (Err F4)
    ∷ row (caller 1 1) (Unreadable NoMethod) (Err F6)
    ∷ row None (Unreadable Malformed) (Err F1)
    ∷ row (caller 2 1) (client_shown_request 1 1) (Err F2)
    ∷ []

-- the line of an office below another
abbrev pub office_line : ℕ → ℕ → List ℕ → OfficeShown
office_line number parent name = record { number = number; parent = Some parent; name = name }

-- branches, and what an officer of one of them sees and may do
abbrev pub branches : List (Line × Result Reply Fault)
branches =
    row (caller 1 1) (NewOffice 2 1 (codes "North")) (Ok (OfficeMade 2))
    ∷ row (caller 1 1) (NewOffice 20 1 (codes "South")) (Ok (OfficeMade 20))
    ∷ row (caller 1 1) (NewOffice 5 2 (codes "Mill")) (Ok (OfficeMade 5))
    ∷ row (caller 1 1) (Office 2 (AddStaff (codes "Ben") Officer)) (Ok (StaffMade (record { office = 2; staff = 1 })))
    ∷ row (caller 2 1) SeenOffices
    (Ok (Offices (office_line 2 1 (codes "North") ∷ office_line 5 2 (codes "Mill") ∷ [])))
    ∷ row (caller 2 1) (enter_client 5 (codes "C")) (Ok (ClientMade (account 5 1)))
    ∷ row (caller 2 1) (enter_client 20 (codes "C")) (Err F4)
    ∷ row (caller 2 1) (enter_client 77 (codes "C")) (Err F4)
    ∷ row (caller 2 1) (Office 20 (AddStaff (codes "D") Teller)) (Err F3)
    ∷ row (caller 1 1) (NewOffice 5 1 (codes "X")) (Err F16)
    ∷ []

-- offices each under the one before: the seventh level is one too many
abbrev pub chain : List (Line × Result Reply Fault)
chain =
    row (caller 1 1) (NewOffice 2 1 (codes "Two")) (Ok (OfficeMade 2))
    ∷ row (caller 1 1) (NewOffice 3 2 (codes "Three")) (Ok (OfficeMade 3))
    ∷ row (caller 1 1) (NewOffice 4 3 (codes "Four")) (Ok (OfficeMade 4))
    ∷ row (caller 1 1) (NewOffice 5 4 (codes "Five")) (Ok (OfficeMade 5))
    ∷ row (caller 1 1) (NewOffice 6 5 (codes "Six")) (Ok (OfficeMade 6))
    ∷ row (caller 1 1) (NewOffice 7 6 (codes "Seven")) (Err F18)
    ∷ []

-- 12 percent, equal principal, monthly, up to 1000000 cents and 12 periods, with an instalment charge where one is
-- named
abbrev pub usual : Option ℕ → ProductMembers
usual charge = record {
  name = codes "P";
  method = EqualPrincipal;
  rate = 1200;
  freq = Months;
  every = 1;
  principal_grace = 0;
  interest_grace = 0;
  min_principal = 1;
  max_principal = 1000000;
  min_periods = 1;
  max_periods = 12;
  strategy = MifosStandard;
  disbursement_charge = None;
  instalment_charge = charge;
  overdue_charge = None;
}

-- a product lends, a loan is approved and is pending again, and a retired product lends no more
abbrev pub lending_lines : List (Line × Result Reply Fault)
lending_lines =
    row (caller 1 1) (Catalogue (AddProduct (usual None))) (Ok (ProductMade 1))
    ∷ row (caller 1 1) (enter_client 1 (codes "Amina")) (Ok (ClientMade (account 1 1)))
    ∷ row (caller 1 1) (submit_request 1 100000 3) (Ok (LoanMade (account 1 1)))
    ∷ row (caller 1 1) (Catalogue (AddCharge (codes "Visit") DueDate Flat 500)) (Ok (ChargeMade 1))
    ∷ row (caller 1 1) (Catalogue (AddProduct (usual (Some 1)))) (Err F8)
    ∷ row (caller 1 1) (Catalogue (AddProduct (usual (Some 9)))) (Err F4)
    ∷ row (caller 1 1) (submit_request 1 1000001 3) (Err F8)
    ∷ row (caller 1 1) (submit_request 1 100000 13) (Err F8)
    ∷ row (caller 1 1) (take_step Approve) (status_reply 200)
    ∷ row (caller 1 1) (take_step Approve) (Err F9)
    ∷ row (caller 1 1) (take_step Withdraw) (Err F9)
    ∷ row (caller 1 1) (take_step UndoApproval) (status_reply 100)
    ∷ row (caller 1 1) (Office 1 (ListLoans 0)) (Ok (LoansShown (record { loan = account 1 1; status = 100 } ∷ [])))
    ∷ row (caller 1 1) (Catalogue (RetireProduct 1)) (Ok (ProductRetired 1))
    ∷ row (caller 1 1) (Catalogue (RetireProduct 1)) (Err F7)
    ∷ row (caller 1 1) (submit_request 1 1000001 3) (Err F7)
    ∷ []

-- 2024-01-01, as the number of the day
abbrev pub first_of_2024 : ℕ
first_of_2024 = 8766

-- the business day goes on only, and each charge and product is shown as it was entered
abbrev pub catalogue_day : List (Line × Result Reply Fault)
catalogue_day =
    row (caller 1 1) (Catalogue ShowDay) (Ok (DayShown 8766))
    ∷ row (caller 1 1) (Catalogue (SetDay 8766)) (Err F17)
    ∷ row (caller 1 1) (Catalogue (SetDay 8765)) (Err F17)
    ∷ row (caller 1 1) (Catalogue (SetDay 8767)) (Ok (DaySet 8767))
    ∷ row (caller 1 1) (Catalogue ShowDay) (Ok (DayShown 8767))
    ∷ row (caller 1 1) (Catalogue (ShowCharge 1)) (Err F4)
    ∷ row (caller 1 1) (Catalogue (AddCharge (codes "Visit") DueDate Flat 500)) (Ok (ChargeMade 1))
    ∷ row (caller 1 1) (Catalogue (ShowCharge 1))
    (Ok (ChargeShown (record { number = 1; name = codes "Visit"; kind = DueDate; calc = Flat; value = 500 })))
    ∷ row (caller 1 1) (Catalogue (ShowCharge 0)) (Err F4)
    ∷ row (caller 1 1) (Catalogue (AddProduct (usual None))) (Ok (ProductMade 1))
    ∷ row (caller 1 1) (Catalogue (ShowProduct 1))
    (Ok (ProductShown (record { number = 1; members = usual None; retired = false })))
    ∷ row (caller 1 1) (Catalogue (ShowProduct 2)) (Err F4)
    ∷ row (caller 1 1) (Catalogue (RetireProduct 2)) (Err F4)
    ∷ row (caller 1 1) (Catalogue (RetireProduct 1)) (Ok (ProductRetired 1))
    ∷ row (caller 1 1) (Catalogue (ShowProduct 1))
    (Ok (ProductShown (record { number = 1; members = usual None; retired = true })))
    ∷ row (caller 1 1) (Unreadable NoRoute) (Err F5)
    ∷ []

-- a loan of 1000.00 over three periods to client 1, before it is disbursed
abbrev pub loan_at_status : ℕ → Statement
loan_at_status status = record {
  client = 1;
  product = 1;
  principal = 100000;
  periods = 3;
  day = None;
  status = status;
  balances = no_balances;
}

-- an application for such a loan, in office 2
abbrev pub submit_in_two : Request
submit_in_two = Office 2 (SubmitLoan (record { client = 1; product = 1; principal = 100000; periods = 3 }))

-- what is asked of loan n of office x
abbrev pub step_request : ℕ → ℕ → PlainStep → Request
step_request office n step = Loan (account office n) (Take (Plain step))

-- Loans are withdrawn, rejected and approved in office 2. Its officer may not decide, and of a manager of office 20
-- each of them is hidden: the reply is that of a loan that isn't there.
abbrev pub deciding : List (Line × Result Reply Fault)
deciding =
    row (caller 1 1) (NewOffice 2 1 (codes "North")) (Ok (OfficeMade 2))
    ∷ row (caller 1 1) (NewOffice 20 1 (codes "South")) (Ok (OfficeMade 20))
    ∷ row (caller 1 1) (Office 2 (AddStaff (codes "Ben") Officer)) (Ok (StaffMade (record { office = 2; staff = 1 })))
    ∷ row (caller 1 1) (Office 20 (AddStaff (codes "Dora") Manager))
    (Ok (StaffMade (record { office = 20; staff = 1 })))
    ∷ row (caller 1 1) (Catalogue (AddProduct (usual None))) (Ok (ProductMade 1))
    ∷ row (caller 2 1) (Catalogue (SetDay 8767)) (Err F3)
    ∷ row (caller 2 1) submit_in_two (Err F4)
    ∷ row (caller 2 1) (enter_client 2 (codes "Amina")) (Ok (ClientMade (account 2 1)))
    ∷ row (caller 2 1) submit_in_two (Ok (LoanMade (account 2 1)))
    ∷ row (caller 2 1) submit_in_two (Ok (LoanMade (account 2 2)))
    ∷ row (caller 2 1) submit_in_two (Ok (LoanMade (account 2 3)))
    ∷ row (caller 2 1) (Loan (account 2 1) Show) (Ok (reply.Loan (account 2 1) (Shown (loan_at_status 100))))
    ∷ row (caller 2 1) (step_request 2 1 Approve) (Err F3)
    ∷ row (caller 2 1) (step_request 2 1 Withdraw) (Ok (reply.Loan (account 2 1) (Status 400)))
    ∷ row (caller 2 1) (step_request 2 1 Withdraw) (Err F9)
    ∷ row (caller 1 1) (step_request 2 2 Reject) (Ok (reply.Loan (account 2 2) (Status 500)))
    ∷ row (caller 1 1) (step_request 2 2 Reject) (Err F9)
    ∷ row (caller 1 1) (step_request 2 2 UndoApproval) (Err F9)
    ∷ row (caller 1 1) (step_request 2 3 Approve) (Ok (reply.Loan (account 2 3) (Status 200)))
    ∷ row (caller 2 1) (Loan (account 2 3) Show) (Ok (reply.Loan (account 2 3) (Shown (loan_at_status 200))))
    ∷ row (caller 20 1) (Loan (account 2 3) Show) (Err F4)
    ∷ row (caller 20 1) (Loan (account 2 4) Show) (Err F4)
    ∷ row (caller 20 1) (Loan (account 20 1) Show) (Err F4)
    ∷ row (caller 20 1) (step_request 2 3 UndoApproval) (Err F4)
    ∷ row (caller 20 1) (step_request 77 1 UndoApproval) (Err F4)
    ∷ row (caller 20 1) (client_shown_request 2 1) (Err F4)
    ∷ row (caller 20 1) (client_shown_request 2 2) (Err F4)
    ∷ row (caller 20 1) submit_in_two (Err F4)
    ∷ row (caller 2 1) (Office 2 (ListLoans 1)) (Ok (LoansShown (record { loan = account 2 2; status = 500 }
    ∷ record { loan = account 2 3; status = 200 } ∷ [])))
    ∷ row (caller 20 1) (Office 2 (ListLoans 0)) (Err F4)
    ∷ row (caller 2 1) (client_shown_request 2 1) (Ok (ClientShown (account 2 1) (codes "Amina")))
    ∷ []
