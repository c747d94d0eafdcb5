-- What is asked of loans: how they are submitted and listed, what becomes of one loan, and what is told of it.
use Rattle.std.specs.Prelude.{ℕ, ◌+◌, ◌-◌, true, List, [], ◌∷◌, ◌++◌, length, take, drop, Option, Some, None, Result}
use Rattle.std.specs.Prelude.{Ok, Err}
use Rattle.mf_base.specs.declared.fault.Fault.{Fault}
use Rattle.mf_base.specs.declared.fault.Fault.TheVariants.{F9}
use Rattle.mf_catalog.specs.declared.product.Product.{Product}
use Rattle.mf_catalog.specs.Product.{lending}
use Rattle.mf_office.specs.declared.account.Account.{Account}
use Rattle.mf_office.specs.declared.caller.Caller.{Caller}
use Rattle.mf_account.specs.declared.entry.Entry.{Entry}
use Rattle.mf_account.specs.Loan.{DisbursedLoan}
use Rattle.mf_account.specs.Standing.{with_mark}
use Rattle.mf_account.specs.Refusals.{refusal_of, reversal_refused}
use Rattle.mf_account.specs.Charges.{fee_refused}
use Rattle.mf_model.specs.declared.loan.Stage.{Stage}
use Rattle.mf_model.specs.declared.loan.Stage.TheVariants.{Submitted}
use Rattle.mf_model.specs.declared.loan.Loan.{Loan}
use Rattle.mf_model.specs.declared.loan.LoanLine.{LoanLine}
use Rattle.mf_model.specs.declared.request.Application.{Application}
use Rattle.mf_model.specs.declared.request.Repayment.{Repayment}
use Rattle.mf_model.specs.declared.request.LoanRequest.{LoanRequest}
use Rattle.mf_model.specs.declared.request.LoanRequest.TheVariants.{Show, ShowInstalments, ShowEntries, Take, Repay}
use Rattle.mf_model.specs.declared.request.LoanRequest.TheVariants.{ChargeFee, Post, Reverse}
use Rattle.mf_model.specs.declared.reply.LoanReply.{LoanReply}
use Rattle.mf_model.specs.declared.reply.LoanReply.TheVariants.{Shown, Instalments, Entries, Status, Entered, Repeated}
use Rattle.mf_model.specs.declared.reply.LoanReply.TheVariants.{Reversed}
use Rattle.mf_model.specs.declared.reply.Reply.{Reply}
use Rattle.mf_model.specs.declared.reply.Reply.TheVariants as reply
use Rattle.mf_model.specs.Institution.{Catalogue, Rows, Ledger, item_numbered, with_numbered, charge_in, product_in}
use Rattle.mf_model.specs.Outcomes.{next_of, with_value, where_found, unless_refused}
use Rattle.mf_model.specs.Stages.{stage_number, next_stage}
use Rattle.mf_model.specs.Receipts.{Use, uses_from, used_before, repeated_seq}
pub use Rattle.mf_model.specs.Postings.{repayment, fee, posting}
use Rattle.mf_model.specs.Accounts.{account_in, status_in, statement, instalments_in, entries_in}

-- what becomes of a loan
abbrev pub LedgerChange : Type 0
LedgerChange = Ledger → Ledger

-- it has come to a stage
abbrev pub with_stage : Stage → LedgerChange
with_stage stage l = record l { loan = record l.loan { stage = stage } }

-- it has one entry more
abbrev pub with_new_entry : Entry → LedgerChange
with_new_entry e l = record l { entries = l.entries ++ e ∷ [] }

-- it has these entries
abbrev pub with_entries : List Entry → LedgerChange
with_entries entries l = record l { entries = entries }

-- an entry counts no more
abbrev pub with_reversal : ℕ → LedgerChange
with_reversal seq l = record l { entries = with_mark l.entries (seq - 1) true }

-- a refusal, or what is told and what becomes of the loan
abbrev pub unless_fault : Option Fault → LoanReply → LedgerChange → Result (LoanReply × Option LedgerChange) Fault
unless_fault (Some fault) told change = Err fault
unless_fault None told change = Ok (told, Some change)

-- the first refusal, or the second where there is none
abbrev pub fault_or : Option Fault → Option Fault → Option Fault
fault_or (Some fault) next = Some fault
fault_or None next = next

-- One entry more, made on the business day for the account that there is. F9 where the loan is not disbursed, then what
-- refuses it beforehand, then what its account refuses.
abbrev pub enter : (DisbursedLoan → Option Fault) → (ℕ → DisbursedLoan → Entry) → Catalogue → Option DisbursedLoan
    → Result (LoanReply × Option LedgerChange) Fault
enter first make k None = Err F9
enter first make k (Some a) = let e = make k.day a in unless_fault (fault_or (first a) (refusal_of a e k.day))
    (Entered e.seq) (with_new_entry e)

-- nothing refuses an entry before its account does
abbrev pub none_first : DisbursedLoan → Option Fault
none_first a = None

-- a fee may fall due too early
abbrev pub fee_first : ℕ → DisbursedLoan → Option Fault
fee_first due a = fee_refused a due

-- an entry counts no more, where its account lets it go; F9 where the loan is not disbursed
abbrev pub reverse : ℕ → Option DisbursedLoan → Result (LoanReply × Option LedgerChange) Fault
reverse seq None = Err F9
reverse seq (Some a) = unless_fault (reversal_refused a.entries seq) (Reversed seq) (with_reversal seq)

-- an entry that was there; nothing becomes of the loan
abbrev pub repeat_of : Result ℕ Fault → Result (LoanReply × Option LedgerChange) Fault
repeat_of (Err e) = Err e
repeat_of (Ok seq) = Ok (Repeated seq, None)

-- a receipt that is known is answered as it was, or refused
abbrev pub unless_known : ℕ → Repayment → Option Use → Result (LoanReply × Option LedgerChange) Fault
    → Result (LoanReply × Option LedgerChange) Fault
unless_known n asked None next = next
unless_known n asked (Some u) next = repeat_of (repeated_seq n asked.amount asked.day u.by)

-- A repayment of loan n of an office with these rows. A receipt that the office knows comes first, whatever the loan's
-- stage.
abbrev pub repay : Repayment → Caller → Catalogue → Rows → ℕ → Ledger → Result (LoanReply × Option LedgerChange) Fault
repay asked caller k rows n l = unless_known n asked (used_before asked.receipt (uses_from 1 rows.loans))
    (enter none_first (λ today. repayment asked caller) k (account_in k l))

-- what a request on loan n of an office with these rows is told, and what becomes of the loan
abbrev pub on_loan : LoanRequest → Caller → Catalogue → Rows → ℕ → Ledger → Result (LoanReply × Option LedgerChange)
    Fault
on_loan Show caller k rows n l = Ok (Shown (statement k l), None)
on_loan ShowInstalments caller k rows n l = Ok (Instalments (instalments_in k l), None)
on_loan ShowEntries caller k rows n l = Ok (Entries (entries_in k l), None)
on_loan (Take step) caller k rows n l =
    with_value (next_stage step k.day l.loan.stage) (λ stage. (Status (stage_number stage), Some (with_stage stage)))
on_loan (Repay asked) caller k rows n l = repay asked caller k rows n l
on_loan (ChargeFee charge due) caller k rows n l =
    where_found (charge_in k charge) (λ c. enter (fee_first due) (fee c due caller) k (account_in k l))
on_loan (Post asked) caller k rows n l = enter none_first (posting asked caller) k (account_in k l)
on_loan (Reverse seq) caller k rows n l = reverse seq (account_in k l)

-- the rows where this becomes of a loan
abbrev pub loan_changed : ℕ → LedgerChange → Rows → Rows
loan_changed n change rows = record rows { loans = with_numbered n change rows.loans }

-- the rows where a loan has come to a stage
abbrev pub loan_staged : ℕ → Stage → Rows → Rows
loan_staged n stage rows = loan_changed n (with_stage stage) rows

-- the rows where a loan has these entries
abbrev pub loan_entered : ℕ → List Entry → Rows → Rows
loan_entered n entries rows = loan_changed n (with_entries entries) rows

-- the reply to a request on a loan, and what becomes of the rows of its office
abbrev pub of_loan : Account → Rows → Result (LoanReply × Option LedgerChange) Fault
    → Result (Reply × Option Rows) Fault
of_loan account rows (Err e) = Err e
of_loan account rows (Ok (told, None)) = Ok (reply.Loan account told, None)
of_loan account rows (Ok (told, Some change)) =
    Ok (reply.Loan account told, Some (loan_changed account.number change rows))

-- what is done with a loan of an office; F4 where the loan isn't there
abbrev pub in_loan : Account → (Ledger → Result (LoanReply × Option LedgerChange) Fault) → Rows
    → Result (Reply × Option Rows) Fault
in_loan account act rows = where_found (item_numbered rows.loans account.number) (λ l. of_loan account rows (act l))

-- the rows with one more loan, which has no entries yet
abbrev pub loan_added : Loan → Rows → Rows
loan_added loan rows = record rows { loans = rows.loans ++ record { loan = loan; entries = [] } ∷ [] }

-- a loan as it is submitted
abbrev pub new_loan : Application → Loan
new_loan asked = record {
  client = asked.client;
  product = asked.product;
  principal = asked.principal;
  periods = asked.periods;
  stage = Submitted;
}

-- a new loan, of at most 999,999 in an office
abbrev pub make_loan : ℕ → Application → Rows → Result (Reply × Option Rows) Fault
make_loan office asked rows = with_value (next_of (length rows.loans) 999999)
    (λ n. (reply.LoanMade (record { office = office; number = n }), Some (loan_added (new_loan asked) rows)))

-- a new loan of a product that must be there and lend so
abbrev pub lend : ℕ → Application → Option Product → Rows → Result (Reply × Option Rows) Fault
lend office asked product rows =
    where_found product (λ p. unless_refused (lending p asked.principal asked.periods) (make_loan office asked rows))

-- A new loan. Its client and its product must be there, the product must lend so, and then there must be room.
abbrev pub submit : ℕ → Application → Catalogue → Rows → Result (Reply × Option Rows) Fault
submit office asked k rows =
    where_found (item_numbered rows.clients asked.client) (λ name. lend office asked (product_in k asked.product) rows)

-- the loans of an office, numbered from n on, each with its status of the moment
abbrev pub lines_from : Catalogue → ℕ → ℕ → List Ledger → List LoanLine
lines_from k office n [] = []
lines_from k office n (l ∷ ls) = record { loan = record { office = office; number = n }; status = status_in k l }
    ∷ lines_from k office (n + 1) ls

-- the first 100 of them with a number above this one
abbrev pub lines_above : Catalogue → ℕ → ℕ → List Ledger → List LoanLine
lines_above k office n loans = take 100 (drop n (lines_from k office 1 loans))

-- the first 100 loans of an office with a number above n
abbrev pub list_loans : ℕ → ℕ → Catalogue → Rows → Result (Reply × Option Rows) Fault
list_loans office n k rows = Ok (reply.LoansShown (lines_above k office n rows.loans), None)
