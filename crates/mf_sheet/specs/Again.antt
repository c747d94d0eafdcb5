-- Repayments and sheets that the same caller sends again.
use Rattle.std.specs.Prelude.{◌≡◌, ◌⊎◌, ℕ, List, [], ◌∷◌, map, Result, Ok}
use Rattle.mf_base.specs.declared.fault.Fault.{Fault}
use Rattle.mf_base.specs.declared.fault.Fault.TheVariants.{F9, F10, F15}
use Rattle.mf_office.specs.declared.caller.Caller.{Caller}
use Rattle.mf_office.specs.declared.account.Account.{Account}
use Rattle.mf_model.specs.declared.reply.Reply.{Reply}
use Rattle.mf_model.specs.declared.reply.Reply.TheVariants as reply
use Rattle.mf_model.specs.declared.reply.LoanReply.TheVariants as loan_reply
use Rattle.mf_model.specs.Institution.{Institution}
use Rattle.mf_model.specs.Run.{Line, answers, last}
use Rattle.mf_model.specs.Answering.{all_answered}
use Rattle.mf_sheet_lines.specs.declared.results.SheetResult.{SheetResult}
use Rattle.mf_sheet_lines.specs.declared.results.SheetResult.TheVariants.{Entered, Repeated, Refused}
use Rattle.mf_sheet.specs.Lines.{call_by, result_of}

-- the lines of a sheet that somebody sends, and of each of which this is told, none of them given up
abbrev pub sheet_lines : List ℕ → Caller → List (List (List ℕ)) → List Line
sheet_lines told c rows = all_answered (map (call_by told c) rows)

-- the results of a sheet that somebody sends
abbrev pub results_on : List ℕ → Caller → List (List (List ℕ)) → Institution → List SheetResult
results_on told c rows i = map result_of (answers (sheet_lines told c rows) i)

-- the institution after the sheet
abbrev pub after_sheet : List ℕ → Caller → List (List (List ℕ)) → Institution → Institution
after_sheet told c rows i = last (sheet_lines told c rows) i

-- A refusal keeps its number, unless a later line of the sheet was entered with the receipt, which is F15, or paid the
-- loan off, so that a day out of order is not looked at.
abbrev pub IsRefusedAgain : Fault → Fault → Type 0
IsRefusedAgain fault again = (again ≡ fault) ⊎ ((again ≡ F15) ⊎ ((fault ≡ F10) × (again ≡ F9)))

-- what was entered or repeated is repeated, and what was refused is refused
abbrev pub IsToldAgain : SheetResult → SheetResult → Type 0
IsToldAgain Entered again = again ≡ Repeated
IsToldAgain Repeated again = again ≡ Repeated
IsToldAgain (Refused fault) again = (number : Fault) × (again ≡ Refused number) × IsRefusedAgain fault number

-- so is each line of the sheet
abbrev pub AreToldAgain : List SheetResult → List SheetResult → Type 0
AreToldAgain [] [] = Unit {0}
AreToldAgain (result ∷ results) (again ∷ others) = IsToldAgain result again × AreToldAgain results others
AreToldAgain [] (again ∷ others) = ⊥
AreToldAgain (result ∷ results) [] = ⊥

-- a repayment was entered under this number, or had been
abbrev pub IsTaken : Account → ℕ → Result Reply Fault → Type 0
IsTaken loan seq answer = (answer ≡ Ok (reply.Loan loan (loan_reply.Entered seq)))
    ⊎ (answer ≡ Ok (reply.Loan loan (loan_reply.Repeated seq)))
