-- A sheet's lines as calls, and what they are told as results.
use Rattle.std.specs.Prelude.{Some, List, ℕ, Result, Ok, Err}
use Rattle.mf_base.specs.declared.fault.Fault.{Fault}
use Rattle.mf_office.specs.declared.caller.Caller.{Caller}
use Rattle.mf_model.specs.Calls.{Received, Call, nothing_received}
use Rattle.mf_model.specs.Notes.{repayment_received}
use Rattle.mf_model.specs.declared.request.Request.{Request}
use Rattle.mf_model.specs.declared.request.Request.TheVariants as request
use Rattle.mf_model.specs.declared.request.Flaw.TheVariants.{Malformed}
use Rattle.mf_model.specs.declared.request.LoanRequest.TheVariants as asks
use Rattle.mf_model.specs.declared.reply.Reply.{Reply}
use Rattle.mf_model.specs.declared.reply.Reply.TheVariants as reply
use Rattle.mf_model.specs.declared.reply.LoanReply.TheVariants as loan_reply
use Rattle.mf_sheet_lines.specs.declared.line.SheetLine.{SheetLine}
use Rattle.mf_sheet_lines.specs.declared.line.SheetLine.TheVariants.{Repay, Bad}
use Rattle.mf_sheet_lines.specs.declared.results.SheetResult.{SheetResult}
use Rattle.mf_sheet_lines.specs.declared.results.SheetResult.TheVariants.{Entered, Repeated, Refused}
use Rattle.mf_sheet_lines.specs.Lines.{sheet_line_of}

-- a line asks for a repayment; a bad one reads as no request
abbrev pub request_of_line : SheetLine → Request
request_of_line Bad = request.Unreadable Malformed
request_of_line (Repay r) =
    request.Loan r.loan (asks.Repay (record { amount = r.amount; day = r.day; receipt = Some r.receipt }))

-- the text of a line, of which this is told: that of its repayment, sent as a request
abbrev pub received_of_line : List ℕ → SheetLine → Received
received_of_line told Bad = nothing_received
received_of_line told (Repay r) = repayment_received told r.loan r.amount r.day r.receipt

-- the call of a line that somebody sends, and of which this is told
abbrev pub call_of_line : List ℕ → Caller → SheetLine → Call
call_of_line told c line =
    record { caller = Some c; request = request_of_line line; received = received_of_line told line }

-- the call of a line of these fields
abbrev pub call_by : List ℕ → Caller → List (List ℕ) → Call
call_by told c fields = call_of_line told c (sheet_line_of fields)

-- the result of a success: a receipt that was known is repeated
abbrev pub result_of_success : Reply → SheetResult
result_of_success (reply.Loan loan (loan_reply.Repeated seq)) = Repeated
result_of_success _ = Entered

-- the result of a reply
abbrev pub result_of : Result Reply Fault → SheetResult
result_of (Ok r) = result_of_success r
result_of (Err fault) = Refused fault

-- a result that was made of a success, or the refusal
abbrev pub outcome_of : Result SheetResult Fault → SheetResult
outcome_of (Ok result) = result
outcome_of (Err fault) = Refused fault
