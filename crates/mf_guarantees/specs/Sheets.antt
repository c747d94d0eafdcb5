-- Runs that enter repayments with receipts, as from collection sheets.
use Rattle.std.specs.Prelude.{◌≡◌, ℕ, Bool, true, false, cond, is_some, List, [], ◌∷◌, ◌++◌, codes, map}
use Rattle.std.specs.Prelude.{Some, Result, Ok}
use Rattle.std.specs.List.{Contains, count_by}
use Rattle.std.specs.Str.{bytes_eq}
use Rattle.mf_base.specs.declared.fault.Fault.{Fault}
use Rattle.mf_office.specs.declared.account.Account.{Account}
use Rattle.mf_office.specs.declared.staff.Role.TheVariants.{Teller}
use Rattle.mf_model.specs.declared.reply.LoanReply.{LoanReply}
use Rattle.mf_model.specs.declared.reply.LoanReply.TheVariants.{Entered, Repeated}
use Rattle.mf_model.specs.declared.reply.Reply.{Reply}
use Rattle.mf_model.specs.declared.reply.Reply.TheVariants as reply
use Rattle.mf_model.specs.declared.request.LoanRequest.TheVariants.{Repay}
use Rattle.mf_model.specs.declared.request.OfficeRequest.TheVariants.{AddStaff}
use Rattle.mf_model.specs.declared.request.Repayment.{Repayment}
use Rattle.mf_model.specs.declared.request.Request.{Request}
use Rattle.mf_model.specs.declared.request.Request.TheVariants.{Loan, Office}
use Rattle.mf_model.specs.Calls.{nothing_received}
use Rattle.mf_model.specs.Institution.{Institution, newly_made}
use Rattle.mf_model.specs.Receipts.{Use, uses_from}
use Rattle.mf_model.specs.Run.{Line, answer, change_of_line, last, next}
use Rattle.mf_model.specs.Store.{rows_at}
use Rattle.mf_model.specs.WorkedAccounts.{common_start, repay_request, january, february, march}
use Rattle.mf_model.specs.WorkedRows.{caller}

-- the request is a repayment of a loan, and has a receipt
pub record IsReceipted (asked : Request) : Type 0 where
  pub loan : Account
  pub repayment : Repayment
  pub receipt : List ℕ
  pub request_is : asked ≡ Loan loan (Repay repayment)
  pub receipt_is : repayment.receipt ≡ Some receipt

-- each line of a run that changes something is a repayment with a receipt: the others are refused, given up or
-- repeated, or they only read
abbrev pub OnlyReceipts : List Line → Institution → Type 0
OnlyReceipts [] i = Unit {0}
OnlyReceipts (l ∷ ls) i = (is_some (change_of_line l i) ≡ true → IsReceipted l.call.request)
    × OnlyReceipts ls (next l i)

-- a request on a loan is told the number of an entry, which is new or was there
abbrev pub is_entry_told_of_loan : LoanReply → Bool
is_entry_told_of_loan (Entered seq) = true
is_entry_told_of_loan (Repeated seq) = true
is_entry_told_of_loan _ = false

-- the same of a request
abbrev pub is_entry_told : Result Reply Fault → Bool
is_entry_told (Ok (reply.Loan loan told)) = is_entry_told_of_loan told
is_entry_told _ = false

-- the requests of a run that were taken, in order: those that were told an entry's number
abbrev pub taken_in : List Line → Institution → List Request
taken_in [] i = []
taken_in (l ∷ ls) i =
    cond (is_entry_told (answer l i)) (l.call.request ∷ taken_in ls (next l i)) (taken_in ls (next l i))

-- the same requests, in whatever order and however often each
pub record AreTheSame (xs ys : List Request) : Type 0 where
  pub first : (asked : Request) → Contains xs asked → Contains ys asked
  pub second : (asked : Request) → Contains ys asked → Contains xs asked

-- how many entries of an office carry a receipt
abbrev pub times_entered : ℕ → List ℕ → Institution → ℕ
times_entered x receipt i = count_by (λ (u : Use). bytes_eq u.receipt receipt) (uses_from 1 (rows_at x i).loans)

-- a line of a member of staff of the head office
abbrev pub sheet_line : ℕ → Request → Line
sheet_line staff asked = record {
  call = record { caller = caller 1 staff; request = asked; received = nothing_received };
  given_up = false;
}

-- a loan of 1000.00 that was paid out by an office with a manager and a teller
abbrev pub worked_desk : Institution
worked_desk = last (map (λ row. row.0) common_start ++ sheet_line 1 (Office 1 (AddStaff (codes "Tia") Teller)) ∷ [])
    (newly_made january)

-- 200.00 of it with one receipt
abbrev pub first_receipt : Request
first_receipt = repay_request 1 1 20000 february (Some (codes "R-1"))

-- 500.00 of it with another
abbrev pub second_receipt : Request
second_receipt = repay_request 1 1 50000 march (Some (codes "R-2"))

-- the teller's sheet, and the manager's behind it: the same receipts, each in another order
abbrev pub worked_sheets : List Line
worked_sheets = sheet_line 2 second_receipt ∷ sheet_line 2 first_receipt ∷ sheet_line 1 first_receipt
    ∷ sheet_line 1 second_receipt ∷ []
