-- How lists and previews are shown: the members of each line, by name.
use Rattle.std.specs.Prelude.{ℕ, codes, cond, List, map, Option, Some, None}
use Rattle.std.specs.Str.{is_utf8}
use Rattle.serde_json.specs.Data.{Data, null, string, array, object, Members, member, no_members}
use Rattle.serde_json.specs.View.{items_of}
use Rattle.mf_base.specs.DayText.{day_text}
use Rattle.mf_office.specs.Roles.{role_name}
use Rattle.mf_office.specs.Written.{account_text, caller_text}
use Rattle.mf_schedule.specs.declared.instalment.FreshInstalment.{FreshInstalment}
use Rattle.mf_lists.specs.declared.answer.ListTold.{ListTold}
use Rattle.mf_lists.specs.declared.answer.ListTold.TheVariants.{ClientLines, ClientLoans, DueLines, StageLines}
use Rattle.mf_lists.specs.declared.answer.ListTold.TheVariants.{StaffLines, ChangeLines, TakingLines}
use Rattle.mf_lists.specs.declared.lines.ChangeLine.{ChangeLine}
use Rattle.mf_lists.specs.declared.lines.ClientLine.{ClientLine}
use Rattle.mf_lists.specs.declared.lines.ClientLoan.{ClientLoan}
use Rattle.mf_lists.specs.declared.lines.DueLine.{DueLine}
use Rattle.mf_lists.specs.declared.lines.LastEntry.{LastEntry}
use Rattle.mf_lists.specs.declared.lines.StaffLine.{StaffLine}
use Rattle.mf_lists.specs.declared.lines.StageLine.{StageLine}
use Rattle.mf_lists.specs.declared.preview.LoanPreview.{LoanPreview}
use Rattle.mf_lists.specs.declared.takings.Counted.{Counted}
use Rattle.mf_lists.specs.declared.takings.Taking.{Taking}
use Rattle.mf_wire_replies.specs.Json.{whole, whole_or_null}
use Rattle.mf_wire_replies.specs.LoanTexts.{day_or_null, sums_data}

-- an object whose one member is the array of the lines
abbrev pub list_named : {L : Type 0} → List ℕ → (L → Data) → List L → Data
list_named name json lines = object (member name (array (items_of (map json lines))) no_members)

-- a client or a loan of an office, by its account
abbrev pub account_in : ℕ → ℕ → Data
account_in office number = string (account_text office number)

-- ---- clients, and the loans of one

-- a client with the counts of their loans
abbrev pub client_data : ℕ → ClientLine → Data
client_data office line = object
    (member (codes "active") (whole line.active)
    (member (codes "client") (account_in office line.number)
    (member (codes "name") (string line.name)
    (member (codes "overdue") (whole line.overdue)
    (member (codes "waiting") (whole line.waiting) no_members)))))

-- clients
abbrev pub clients_data : ℕ → List ClientLine → Data
clients_data office lines = list_named (codes "clients") (client_data office) lines

-- a client's loan from overdue on
abbrev pub client_loan_end : ClientLoan → Members
client_loan_end line =
    member (codes "overdue") (whole line.overdue)
    (member (codes "principal") (whole line.principal)
    (member (codes "product") (whole line.product)
    (member (codes "status") (whole line.status) no_members)))

-- a client's loan
abbrev pub client_loan_data : ℕ → ClientLoan → Data
client_loan_data office line = object
    (member (codes "approved") (day_or_null line.approved)
    (member (codes "disbursed") (day_or_null line.disbursed)
    (member (codes "left") (whole line.left)
    (member (codes "loan") (account_in office line.loan) (client_loan_end line)))))

-- the loans of a client
abbrev pub client_loans_data : ℕ → List ClientLoan → Data
client_loans_data office lines = list_named (codes "loans") (client_loan_data office) lines

-- ---- what is due

-- an entry by its day and its number, or null where there is none
abbrev pub last_or_null : Option LastEntry → Data
last_or_null None = null
last_or_null (Some last) = object
    (member (codes "day") (string (day_text last.day))
    (member (codes "entry") (whole last.seq) no_members))

-- a loan of which something is due from left on
abbrev pub due_end : ℕ → DueLine → Members
due_end office line =
    member (codes "left") (whole line.left)
    (member (codes "loan") (account_in office line.loan)
    (member (codes "name") (string line.name)
    (member (codes "oldest") (string (day_text line.oldest)) no_members)))

-- a loan of which something is due
abbrev pub due_data : ℕ → DueLine → Data
due_data office line = object
    (member (codes "client") (account_in office line.client)
    (member (codes "due") (sums_data line.due)
    (member (codes "last") (last_or_null line.last) (due_end office line))))

-- loans of which something is due
abbrev pub due_list_data : ℕ → List DueLine → Data
due_list_data office lines = list_named (codes "due") (due_data office) lines

-- ---- loans of a status

-- a loan with its client from name on
abbrev pub stage_end : StageLine → Members
stage_end line =
    member (codes "name") (string line.name)
    (member (codes "principal") (whole line.principal)
    (member (codes "product") (whole line.product) no_members))

-- a loan with its client
abbrev pub stage_data : ℕ → StageLine → Data
stage_data office line = object
    (member (codes "client") (account_in office line.client)
    (member (codes "day") (day_or_null line.day)
    (member (codes "loan") (account_in office line.loan) (stage_end line))))

-- loans of a status
abbrev pub stages_data : ℕ → List StageLine → Data
stages_data office lines = list_named (codes "loans") (stage_data office) lines

-- ---- staff

-- a member of staff
abbrev pub staff_data : ℕ → StaffLine → Data
staff_data office line = object
    (member (codes "name") (string line.name)
    (member (codes "role") (string (role_name line.role))
    (member (codes "staff") (string (caller_text office line.number)) no_members)))

-- staff
abbrev pub staff_list_data : ℕ → List StaffLine → Data
staff_list_data office lines = list_named (codes "staff") (staff_data office) lines

-- ---- what the journal tells

-- a loan of an office by its account, or null where there is none
abbrev pub account_or_null : ℕ → Option ℕ → Data
account_or_null office None = null
account_or_null office (Some number) = account_in office number

-- bytes as a text, or null where they are no UTF-8
abbrev pub text_or_null : List ℕ → Data
text_or_null bytes = cond (is_utf8 bytes) (string bytes) null

-- a change from number on
abbrev pub change_end : ChangeLine → Members
change_end line =
    member (codes "number") (whole line.number)
    (member (codes "path") (text_or_null line.path)
    (member (codes "staff") (string (caller_text line.caller.office line.caller.staff))
    (member (codes "told") (text_or_null line.told) no_members)))

-- a change: the request as it was received, when, by whom, and of which loan
abbrev pub change_data : ℕ → ChangeLine → Data
change_data office line = object
    (member (codes "body") (text_or_null line.body)
    (member (codes "day") (string (day_text line.day))
    (member (codes "loan") (account_or_null office line.loan)
    (member (codes "method") (text_or_null line.method) (change_end line)))))

-- changes
abbrev pub changes_data : ℕ → List ChangeLine → Data
changes_data office lines = list_named (codes "changes") (change_data office) lines

-- ---- takings

-- how many movements, and their sum
abbrev pub counted_data : Counted → Data
counted_data c = object (member (codes "count") (whole c.count) (member (codes "sum") (whole c.sum) no_members))

-- the takings of a member of staff from paid_in on
abbrev pub taking_end : Taking → Members
taking_end t =
    member (codes "paid_in") (counted_data t.paid_in)
    (member (codes "paid_out") (counted_data t.paid_out)
    (member (codes "staff") (string (caller_text t.staff.office t.staff.staff)) no_members))

-- the takings of a member of staff
abbrev pub taking_data : ℕ → Taking → Data
taking_data office t = object
    (member (codes "in_reversed") (counted_data t.in_reversed)
    (member (codes "out_reversed") (counted_data t.out_reversed) (taking_end t)))

-- takings
abbrev pub takings_data : ℕ → List Taking → Data
takings_data office lines = list_named (codes "takings") (taking_data office) lines

-- the list that is told of an office
abbrev pub told_data : ℕ → ListTold → Data
told_data office (ClientLines lines) = clients_data office lines
told_data office (ClientLoans lines) = client_loans_data office lines
told_data office (DueLines lines) = due_list_data office lines
told_data office (StageLines lines) = stages_data office lines
told_data office (StaffLines lines) = staff_list_data office lines
told_data office (ChangeLines lines) = changes_data office lines
told_data office (TakingLines lines) = takings_data office lines

-- ---- what a loan would be

-- an instalment
abbrev pub instalment_data : FreshInstalment → Data
instalment_data row = object
    (member (codes "due") (string (day_text row.due))
    (member (codes "fees") (whole row.fees)
    (member (codes "interest") (whole row.interest)
    (member (codes "principal") (whole row.principal) no_members))))

-- a preview
abbrev pub preview_data : LoanPreview → Data
preview_data shown = object
    (member (codes "handed_over") (whole shown.handed_over)
    (member (codes "instalments") (array (items_of (map instalment_data shown.instalments)))
    (member (codes "kept") (whole shown.kept)
    (member (codes "owed") (whole shown.owed)
    (member (codes "rate") (whole_or_null shown.rate) no_members)))))
