-- What a request is answered, and what it changes.
use Rattle.std.specs.Prelude.{ℕ, Bool, true, false, cond, not, ◌&&◌, List, ◌==◌, Option, Some, None, Result, Ok, Err}
use Rattle.mf_base.specs.declared.fault.Fault.{Fault}
use Rattle.mf_base.specs.declared.fault.Fault.TheVariants.{F1, F2, F3, F4, F5, F6, F16, F18}
use Rattle.mf_office.specs.declared.staff.Role.{Role}
use Rattle.mf_office.specs.declared.staff.Role.TheVariants.{Teller, Manager}
use Rattle.mf_office.specs.declared.caller.Caller.{Caller}
use Rattle.mf_office.specs.Tree.{is_within, is_at_or_below}
use Rattle.mf_model.specs.Calls.{Call}
use Rattle.mf_model.specs.declared.request.Flaw.{Flaw}
use Rattle.mf_model.specs.declared.request.Flaw.TheVariants.{Malformed, NoRoute, NoMethod}
use Rattle.mf_model.specs.declared.request.CatalogueRequest.{CatalogueRequest}
use Rattle.mf_model.specs.declared.request.CatalogueRequest.TheVariants.{ShowDay, SetDay, AddCharge, ShowCharge}
use Rattle.mf_model.specs.declared.request.CatalogueRequest.TheVariants.{AddProduct, ShowProduct, RetireProduct}
use Rattle.mf_model.specs.declared.request.OfficeRequest.{OfficeRequest}
use Rattle.mf_model.specs.declared.request.OfficeRequest.TheVariants.{AddStaff, AddClient, ShowClient, SubmitLoan}
use Rattle.mf_model.specs.declared.request.OfficeRequest.TheVariants.{ListLoans}
use Rattle.mf_model.specs.declared.request.LoanRequest.{LoanRequest}
use Rattle.mf_model.specs.declared.request.LoanRequest.TheVariants.{Show, ShowInstalments, ShowEntries, Take, Repay}
use Rattle.mf_model.specs.declared.request.LoanRequest.TheVariants.{ChargeFee, Post, Reverse}
use Rattle.mf_model.specs.declared.request.Posting.TheVariants.{Penalty, Waiver, WriteOff, Refund}
use Rattle.mf_model.specs.declared.request.Request.{Request}
use Rattle.mf_model.specs.declared.request.Request.TheVariants as request
use Rattle.mf_model.specs.declared.reply.Reply.{Reply}
use Rattle.mf_model.specs.declared.reply.Reply.TheVariants.{OfficeMade}
use Rattle.mf_model.specs.Institution.{Institution, Catalogue, Office, Rows, Staff, Change, Catalogue_becomes}
use Rattle.mf_model.specs.Institution.{Rows_become, Office_added, office_at, staff_member}
use Rattle.mf_model.specs.Tree.{parent_of, seen_office, seen_by, is_there}
use Rattle.mf_model.specs.Stages.{step_need}
use Rattle.mf_model.specs.Catalogue.{on_catalogue}
use Rattle.mf_model.specs.Arrears.{list_arrears}
use Rattle.mf_model.specs.Offices.{list_offices, add_staff, add_client, show_client}
use Rattle.mf_model.specs.Loans.{on_loan, in_loan, submit, list_loans}
pub use Rattle.mf_model.specs.Needs.{Need, A_teller, An_officer, A_manager, The_head}
pub use Rattle.mf_model.specs.Offices.{office_shown, staff_added, client_added}
pub use Rattle.mf_model.specs.Loans.{loan_added, loan_staged, loan_entered}

-- what a request looks at and changes, once its caller may send it: the catalogue; one office, and the catalogue beside
-- it; the offices that the caller sees; or a place for a new office
pub data Plan : Type 0 where
  On_catalogue : (Catalogue → Result (Reply × Option Catalogue) Fault) → Plan
  On_office : ℕ → (Caller → Catalogue → Office → Result (Reply × Option Rows) Fault) → Plan
  On_all_seen : (Catalogue → List Office → Result Reply Fault) → Plan
  On_new_office : ℕ → ℕ → List ℕ → Plan

-- the refusal of a line that reads as no request
abbrev pub flaw_fault : Flaw → Fault
flaw_fault Malformed = F1
flaw_fault NoRoute = F5
flaw_fault NoMethod = F6

-- what is done with one office
abbrev pub on_office : OfficeRequest → ℕ → Catalogue → Rows → Result (Reply × Option Rows) Fault
on_office (AddStaff name role) office k rows = add_staff office name role rows
on_office (AddClient name) office k rows = add_client office name rows
on_office (ShowClient client) office k rows = show_client office client rows
on_office (SubmitLoan asked) office k rows = submit office asked k rows
on_office (ListLoans after) office k rows = list_loans office after k rows

-- the table of requests. What reads as no request is refused before anything is looked at
abbrev pub plan : Request → Result Plan Fault
plan (request.Unreadable flaw) = Err (flaw_fault flaw)
plan (request.Catalogue asked) = Ok (On_catalogue (on_catalogue asked))
plan (request.Office office asked) =
    Ok (On_office office (λ caller catalogue f. on_office asked office catalogue f.rows))
plan (request.Loan loan asked) = Ok (On_office loan.office (λ caller catalogue f.
    in_loan loan (on_loan asked caller catalogue f.rows loan.number) f.rows))
plan request.SeenOffices = Ok (On_all_seen list_offices)
plan request.SeenArrears = Ok (On_all_seen list_arrears)
plan (request.NewOffice number parent name) = Ok (On_new_office number parent name)

-- who may send a request on the catalogue
abbrev pub catalogue_need : CatalogueRequest → Need
catalogue_need ShowDay = A_teller
catalogue_need (SetDay day) = The_head
catalogue_need (AddCharge name kind calc value) = The_head
catalogue_need (ShowCharge charge) = A_teller
catalogue_need (AddProduct members) = The_head
catalogue_need (ShowProduct product) = A_teller
catalogue_need (RetireProduct product) = The_head

-- who may send a request on an office
abbrev pub office_need : OfficeRequest → Need
office_need (AddStaff name role) = A_manager
office_need (AddClient name) = An_officer
office_need (ShowClient client) = A_teller
office_need (SubmitLoan asked) = An_officer
office_need (ListLoans after) = A_teller

-- who may send a request on a loan
abbrev pub loan_need : LoanRequest → Need
loan_need Show = A_teller
loan_need ShowInstalments = A_teller
loan_need ShowEntries = A_teller
loan_need (Take step) = step_need step
loan_need (Repay repayment) = A_teller
loan_need (ChargeFee charge due) = An_officer
loan_need (Post (Penalty instalment)) = An_officer
loan_need (Post (Waiver instalment portion)) = A_manager
loan_need (Post WriteOff) = A_manager
loan_need (Post Refund) = A_manager
loan_need (Reverse entry) = A_manager

-- the table of roles
abbrev pub need : Request → Need
need (request.Unreadable flaw) = A_teller
need (request.Catalogue asked) = catalogue_need asked
need (request.Office office asked) = office_need asked
need (request.Loan loan asked) = loan_need asked
need request.SeenOffices = A_teller
need request.SeenArrears = A_teller
need (request.NewOffice number parent name) = The_head

-- the role is a manager's
abbrev pub is_manager : Role → Bool
is_manager Manager = true
is_manager _ = false

-- an officer or a manager
abbrev pub is_officer : Role → Bool
is_officer Teller = false
is_officer _ = true

-- judged from the caller's role and office and the kind of request alone
abbrev pub meets : Need → Role → ℕ → Bool
meets A_teller role office = true
meets An_officer role office = is_officer role
meets A_manager role office = is_manager role
meets The_head role office = is_manager role && (office == 1)

-- a success with the change that it makes, or a refusal
abbrev pub Outcome : Type 0
Outcome = Result (Reply × Option Change) Fault

-- an outcome that changes the catalogue or nothing
abbrev pub of_catalogue : Result (Reply × Option Catalogue) Fault → Outcome
of_catalogue (Err e) = Err e
of_catalogue (Ok (reply, None)) = Ok (reply, None)
of_catalogue (Ok (reply, Some catalogue)) = Ok (reply, Some (Catalogue_becomes catalogue))

-- an outcome that changes an office's rows or nothing
abbrev pub of_office : ℕ → Result (Reply × Option Rows) Fault → Outcome
of_office x (Err e) = Err e
of_office x (Ok (reply, None)) = Ok (reply, None)
of_office x (Ok (reply, Some rows)) = Ok (reply, Some (Rows_become x rows))

-- an outcome that changes nothing
abbrev pub of_reading : Result Reply Fault → Outcome
of_reading (Err e) = Err e
of_reading (Ok reply) = Ok (reply, None)

-- what is done in office x, where it is seen
abbrev pub in_office : ℕ → (Catalogue → Office → Result (Reply × Option Rows) Fault) → Catalogue → Option Office
    → Outcome
in_office x act catalogue None = Err F4
in_office x act catalogue (Some f) = of_office x (act catalogue f)

-- a new office under a parent that office o sees; at most six deep, the head being one
abbrev pub add_office : ℕ → ℕ → ℕ → List ℕ → List Office → Outcome
add_office o number parent name fs =
    cond (not (is_there fs parent && is_at_or_below (parent_of fs) parent o)) (Err F4)
    (cond (is_there fs number) (Err F16)
    (cond (is_within 4 (parent_of fs) parent 1) (Ok (OfficeMade number, Some (Office_added number parent name)))
    (Err F18)))

-- what becomes of a plan that the caller may send. A named office is there only where it is at or below the caller's
abbrev pub carried_out : Caller → Plan → Institution → Outcome
carried_out c (On_catalogue act) i = of_catalogue (act i.catalogue)
carried_out c (On_office x act) i = in_office x (act c) i.catalogue (seen_office c.office x i)
carried_out c (On_all_seen read) i = of_reading (read i.catalogue (seen_by c.office i.offices))
carried_out c (On_new_office number parent name) i = add_office c.office number parent name i.offices

-- the caller's row
abbrev pub staff_at : Institution → Caller → Option Staff
staff_at i c = staff_member i.offices c

-- what comes of a request where its caller is known and may send it
abbrev pub where_permitted : Caller → Request → Plan → Option Staff → Institution → Outcome
where_permitted c request p None i = Err F2
where_permitted c request p (Some staff) i = cond (meets (need request) staff.role c.office) (carried_out c p i)
    (Err F3)

-- what comes of what was read of a request
abbrev pub sent_by : Option Caller → Request → Result Plan Fault → Institution → Outcome
sent_by caller request (Err e) i = Err e
sent_by None request (Ok p) i = Err F2
sent_by (Some c) request (Ok p) i = where_permitted c request p (staff_at i c) i

-- what a call is answered and changes
abbrev pub outcome : Call → Institution → Outcome
outcome call i = sent_by call.caller call.request (plan call.request) i

-- the reply of an outcome
abbrev pub reply_in : Outcome → Result Reply Fault
reply_in (Err e) = Err e
reply_in (Ok r) = Ok r.0

-- the change of an outcome, if it has one
abbrev pub change_in : Outcome → Option Change
change_in (Err e) = None
change_in (Ok r) = r.1

-- what a call is answered
abbrev pub reply : Call → Institution → Result Reply Fault
reply call i = reply_in (outcome call i)

-- the change that an accepted plan makes. Nothing is read of the caller's own row
abbrev pub plan_effect : Caller → Plan → Institution → Option Change
plan_effect c (On_catalogue act) i = change_in (of_catalogue (act i.catalogue))
plan_effect c (On_office x act) i = change_in (in_office x (act c) i.catalogue (office_at x i.offices))
plan_effect c (On_all_seen read) i = None
plan_effect c (On_new_office number parent name) i = Some (Office_added number parent name)

-- what a plan changes, where somebody sent it
abbrev pub sender_effect : Option Caller → Result Plan Fault → Institution → Option Change
sender_effect caller (Err e) i = None
sender_effect None (Ok p) i = None
sender_effect (Some c) (Ok p) i = plan_effect c p i

-- the effect of an accepted call: worked out from the catalogue and the target alone
abbrev pub effect : Call → Institution → Option Change
effect call i = sender_effect call.caller (plan call.request) i
