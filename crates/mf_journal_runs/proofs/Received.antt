-- Each call of a run, of messages and of a sheet is what its text asks.
use Rattle.std.proofs.Common.{◌≡◌, Bool, List, [], ◌∷◌, map, ℕ, Some, None, sym, subst}
use Rattle.std.specs.Prelude.{codes, Option}
use Rattle.mf_office.specs.Texts.{IsCaller}
use Rattle.mf_office.specs.declared.caller.Caller.{Caller}
use Rattle.mf_office.specs.Written.{account_text}
use Rattle.mf_model.specs.Notes.{repayment_body}
use Rattle.mf_model.specs.Run.{Line}
use Rattle.mf_play.specs.Play.{if_readable, IsAsReceived, AreAsReceived}
use Rattle.mf_play.proofs.Received.{message_received as as_received}
use Rattle.mf_sheet_lines.specs.Lines.{sheet_line_of, IsRepaymentInRange, IsLineInRange}
use Rattle.mf_sheet_lines.specs.declared.line.SheetLine.{SheetLine}
use Rattle.mf_sheet_lines.specs.declared.line.SheetLine.TheVariants.{Repay, Bad}
use Rattle.mf_sheet_lines.specs.declared.line.SheetRepayment.{SheetRepayment}
use Rattle.mf_sheet_lines.proofs.Ranges.{line_in_range}
use Rattle.mf_sheet.specs.Lines.{request_of_line, call_of_line, call_by}
use Rattle.mf_wire.specs.Exchanges.{Exchange, AreLinesOf}
use Rattle.mf_wire.specs.Serving.{call_of_message, message_parts}
use Rattle.mf_wire_messages.specs.Messages.{Message}
use Rattle.mf_wire_requests.specs.Requests.{request_of}
use Rattle.mf_journal_runs.proofs.Paths.{path_of}
use Rattle.mf_journal_runs.proofs.ReadsBack.{reads_back}

-- a line of a sheet
pub repayment_reads_back : (r : SheetRepayment) → IsRepaymentInRange r
    → if_readable (request_of (codes "POST") (path_of (account_text r.loan.office r.loan.number))
    (repayment_body r.amount r.day r.receipt)) ≡ Some (request_of_line (Repay r))
repayment_reads_back r h = reads_back r.loan r.amount r.day r.receipt h.loan
    (record { least = h.least; most = h.most; early = h.day; is_receipt = h.receipt })

line_received : (told : List ℕ) (c : Caller) → IsCaller c → (line : SheetLine) → IsLineInRange line
    → IsAsReceived (call_of_line told c line)
line_received told c is Bad h = record { caller = is; request = tt }
line_received told c is (Repay r) h = record { caller = is; request = repayment_reads_back r h }

pub fields_received : (told : List ℕ) (c : Caller) → IsCaller c → (fields : List (List ℕ))
    → IsAsReceived (call_by told c fields)
fields_received told c is fields = line_received told c is (sheet_line_of fields) (line_in_range fields)

pub rows_received : (told : List ℕ) (c : Caller) → IsCaller c → (run : List Line) (rows : List (List (List ℕ)))
    → map (λ l. l.call) run ≡ map (call_by told c) rows → AreAsReceived run
rows_received told c is [] rows e = tt
rows_received told c is (l ∷ run) [] e = absurd (cc)
rows_received told c is (l ∷ run) (fields ∷ rows) e =
    let one : l.call ≡ call_by told c fields = cc in
    let rest : map (λ (m : Line). m.call) run ≡ map (call_by told c) rows = cc in
    (subst IsAsReceived (sym one) (fields_received told c is fields), rows_received told c is run rows rest)

-- a message
pub message_received : (told : Bool) (message : Option Message) → IsAsReceived (call_of_message told message)
message_received told None = record { caller = tt; request = tt }
message_received told (Some message) = as_received message.staff (message_parts told message)

pub exchanges_received : (told : Bool) (es : List Exchange) (run : List Line) (to_heads : List Bool) → AreLinesOf told
    es run to_heads
    → AreAsReceived run
exchanges_received told [] [] [] h = tt
exchanges_received told [] [] (to_head ∷ others) h = absurd h
exchanges_received told [] (l ∷ run) to_heads h = absurd h
exchanges_received told (e ∷ es) [] to_heads h = absurd h
exchanges_received told (e ∷ es) (l ∷ run) [] h = absurd h
exchanges_received told (e ∷ es) (l ∷ run) (to_head ∷ others) h =
    (subst IsAsReceived (sym h.0.2) (message_received told h.0.0), exchanges_received told es run others h.1)
