-- The report that a caller is shown.
use Rattle.std.specs.Prelude.{ℕ, List, String, string_bytes, Option, Some, Result, Ok, Err}
use Rattle.mf_base.specs.declared.fault.Fault.{Fault}
use Rattle.mf_office.specs.declared.caller.Caller.{Caller}
use Rattle.mf_arrears.specs.Line.{OfficeLine}
use Rattle.mf_arrears.specs.Report.{report_bytes}
use Rattle.mf_model.specs.Institution.{Institution}
use Rattle.mf_desk.specs.Answers.{arrears_told}

-- lines that can be summed, or the refusal
abbrev pub some_or_refusal : Result (List OfficeLine) Fault → Result (Option (List OfficeLine)) Fault
some_or_refusal (Ok lines) = Ok (Some lines)
some_or_refusal (Err fault) = Err fault

-- the arrears that a caller sees, which can be summed; F2 where there is no such member of staff
abbrev pub lines_told : Caller → Institution → Result (Option (List OfficeLine)) Fault
lines_told c i = some_or_refusal (arrears_told c i)

-- the text of a report's lines, or the refusal
abbrev pub report_or_refusal : Result (List OfficeLine) Fault → Result (List ℕ) Fault
report_or_refusal (Ok lines) = Ok (report_bytes lines)
report_or_refusal (Err fault) = Err fault

-- the text of the arrears that a caller sees; F2 where there is no such member of staff
abbrev pub report_told : Caller → Institution → Result (List ℕ) Fault
report_told c i = report_or_refusal (arrears_told c i)

-- the bytes of a text, or its refusal
abbrev pub bytes_of : {Z : Type 0} → Result (String Z) Fault → Result (List ℕ) Fault
bytes_of (Ok text) = Ok (string_bytes text)
bytes_of (Err fault) = Err fault
