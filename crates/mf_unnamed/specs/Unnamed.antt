-- Institutions, requests and answers without the names of clients and staff.
use Rattle.std.specs.Prelude.{ℕ, Bool, true, false, List, [], map, None, Result, Ok, Err}
use Rattle.mf_base.specs.declared.fault.Fault.{Fault}
use Rattle.mf_model.specs.Calls.{Call, nothing_received}
use Rattle.mf_model.specs.Institution.{Institution, Office, Rows, Staff}
use Rattle.mf_model.specs.Run.{Line}
use Rattle.mf_model.specs.declared.reply.Reply.{Reply}
use Rattle.mf_model.specs.declared.reply.Reply.TheVariants.{ClientShown}
use Rattle.mf_model.specs.declared.request.OfficeRequest.{OfficeRequest}
use Rattle.mf_model.specs.declared.request.OfficeRequest.TheVariants.{AddStaff, AddClient, ShowClient, SubmitLoan}
use Rattle.mf_model.specs.declared.request.OfficeRequest.TheVariants.{ListLoans}
use Rattle.mf_model.specs.declared.request.Request.{Request}
use Rattle.mf_model.specs.declared.request.Request.TheVariants as request

-- a member of staff without a name
abbrev pub unnamed_staff : Staff → Staff
unnamed_staff s = record { name = []; role = s.role }

-- the name of a client is left out
abbrev pub no_name : List ℕ → List ℕ
no_name name = []

-- an office's rows without names
abbrev pub unnamed_rows : Rows → Rows
unnamed_rows rows = record {
  staff = map unnamed_staff rows.staff;
  clients = map no_name rows.clients;
  loans = rows.loans;
}

-- an office, whose own name stays
abbrev pub unnamed_office : Office → Office
unnamed_office f = record { number = f.number; parent = f.parent; name = f.name; rows = unnamed_rows f.rows }

-- an institution without the names of its clients and staff, and without its journal, which has them in its texts
abbrev pub unnamed : Institution → Institution
unnamed i = record { catalogue = i.catalogue; offices = map unnamed_office i.offices; journal = None }

-- a request on an office without the name that it gives
abbrev pub unnamed_asked : OfficeRequest → OfficeRequest
unnamed_asked (AddStaff name role) = AddStaff [] role
unnamed_asked (AddClient name) = AddClient []
unnamed_asked (ShowClient client) = ShowClient client
unnamed_asked (SubmitLoan asked) = SubmitLoan asked
unnamed_asked (ListLoans after) = ListLoans after

-- a request without the name that it gives
abbrev pub unnamed_request : Request → Request
unnamed_request (request.Unreadable flaw) = request.Unreadable flaw
unnamed_request (request.Catalogue asked) = request.Catalogue asked
unnamed_request (request.Office office asked) = request.Office office (unnamed_asked asked)
unnamed_request (request.Loan loan asked) = request.Loan loan asked
unnamed_request request.SeenOffices = request.SeenOffices
unnamed_request request.SeenArrears = request.SeenArrears
unnamed_request (request.NewOffice number parent name) = request.NewOffice number parent name

-- a call without that name, and without its text
abbrev pub unnamed_call : Call → Call
unnamed_call call =
    record { caller = call.caller; request = unnamed_request call.request; received = nothing_received }

-- a line of a run without that name
abbrev pub unnamed_line : Line → Line
unnamed_line l = record { call = unnamed_call l.call; given_up = l.given_up }

-- a reply without the name that it shows
abbrev pub unnamed_reply : Reply → Reply
unnamed_reply (ClientShown client name) = ClientShown client []
unnamed_reply r = r

-- an answer without the name that it shows
abbrev pub unnamed_answer : Result Reply Fault → Result Reply Fault
unnamed_answer (Ok r) = Ok (unnamed_reply r)
unnamed_answer (Err e) = Err e

-- a reply shows a name
abbrev pub reply_shows : Reply → Bool
reply_shows (ClientShown client name) = true
reply_shows r = false

-- an answer shows a name
abbrev pub shows_name : Result Reply Fault → Bool
shows_name (Ok r) = reply_shows r
shows_name (Err e) = false
