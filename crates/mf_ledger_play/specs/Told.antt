-- The requests that lines of a journal tell, and the text of their transactions.
use Rattle.std.specs.Prelude.{ℕ, List, [], ◌∷◌, Option, Some, None, option_map}
use Rattle.std.specs.List.{cons_option, flat_map}
use Rattle.csv.specs.Writing.{row_text}
use Rattle.mf_office.specs.declared.account.Account.{Account}
use Rattle.mf_ledger.specs.Accrual.{accrued_of, adjusting_between}
use Rattle.mf_ledger.specs.Books.{postings_between}
use Rattle.mf_ledger.specs.declared.basis.Basis.{Basis}
use Rattle.mf_ledger.specs.declared.basis.Basis.TheVariants.{Cash, Accrual}
use Rattle.mf_ledger.specs.declared.books.Posting.{Posting}
use Rattle.mf_ledger.specs.declared.books.Transaction.{Transaction}
use Rattle.mf_ledger.specs.declared.names.GivenName.{GivenName}
use Rattle.mf_ledger.specs.declared.names.Program.TheVariants as program
use Rattle.mf_ledger.specs.declared.occasion.Occasion.{Occasion}
use Rattle.mf_ledger.specs.Runs.{between, product_of_loan, sums_of}
use Rattle.mf_ledger.specs.Sheet.{columns, rows_of, sheet_text, sheet_writer}
use Rattle.mf_ledger.specs.Text.{booked_text, occasion_of, preamble}
use Rattle.mf_model.specs.Answering.{line_answered}
use Rattle.mf_model.specs.Institution.{Catalogue, Institution, JournalLine, Ledger}
use Rattle.mf_model.specs.Run.{Line}
use Rattle.mf_model.specs.Store.{ledger_at}
use Rattle.mf_model.specs.declared.request.Request.{Request}
use Rattle.mf_model.specs.declared.request.Request.TheVariants as request
use Rattle.mf_play.specs.Play.{call_told}
use Rattle.mf_wire_requests.specs.Requests.{request_of}
use Rattle.mf_ledger_play.specs.declared.form.BooksAsked.{BooksAsked}
use Rattle.mf_ledger_play.specs.declared.form.BooksForm.{BooksForm}
use Rattle.mf_ledger_play.specs.declared.form.BooksForm.TheVariants.{Hledger, Beancount, Sheet}
use Rattle.mf_ledger_play.specs.declared.line.Booking.{Booking}
use Rattle.mf_ledger_play.specs.declared.line.LoanMoved.{LoanMoved}
use Rattle.mf_ledger_play.specs.declared.loans.LoanState.{LoanState}

-- the run of requests that lines tell, each of them answered
abbrev pub run_told : List JournalLine → List Line
run_told [] = []
run_told (l ∷ ls) = cons_option (option_map line_answered (call_told l)) (run_told ls)

-- what stands before the first transaction
abbrev pub form_head : BooksForm → List ℕ
form_head Hledger = preamble program.Hledger
form_head Beancount = preamble program.Beancount
form_head Sheet = row_text sheet_writer columns

-- the text of postings that are of this
abbrev pub form_booked : BooksForm → List GivenName → Occasion → List Posting → List ℕ
form_booked Hledger gs o postings = booked_text program.Hledger gs o postings
form_booked Beancount gs o postings = booked_text program.Beancount gs o postings
form_booked Sheet gs o postings = sheet_text (rows_of gs o postings)

-- the text of a transaction
abbrev pub form_text : BooksForm → List GivenName → Transaction → List ℕ
form_text form gs t = form_booked form gs (occasion_of t) t.postings

-- the text of those transactions that are dated in the span of days that is asked for
abbrev pub span_text : BooksAsked → List Transaction → List ℕ
span_text asked ts = flat_map (form_text asked.form asked.names) (between asked.first asked.last ts)

-- the loan that a request is on, if it is on one
abbrev pub loan_named : Request → Option Account
loan_named (request.Loan loan asked) = Some loan
loan_named _ = None

-- the loan that the request of a line is on, if it is on one
abbrev pub loan_told : JournalLine → Option Account
loan_told l = loan_named (request_of l.method l.path l.body)

-- what the books read of a loan that may be there at the end of a day, with its product
abbrev pub state_in : ℕ → Catalogue → Option Ledger → LoanState
state_in day k ledger = record {
  product = product_of_loan ledger;
  sums = sums_of k ledger;
  accrued = accrued_of day k ledger;
}

-- the same of a loan of an institution
abbrev pub state_at : ℕ → Account → Institution → LoanState
state_at day loan i = state_in day i.catalogue (ledger_at loan i)

-- the transaction that is of this, of these postings
abbrev pub transaction_with : Booking → List Posting → Transaction
transaction_with b postings = record { number = b.number; day = b.day; loan = b.loan; postings = postings }

-- what a change of a loan moves on a cash basis, from what the books read of it before and after
abbrev pub moved_postings : Booking → LoanMoved → List Posting
moved_postings b m = postings_between b.loan.office m.before.product m.before.sums m.after.sums

-- what it adds on an accrual basis
abbrev pub adjusted_postings : Booking → LoanMoved → List Posting
adjusted_postings b m = adjusting_between b.loan.office m.before.product m.before.accrued m.after.accrued

-- the adjusting transaction of a change of a loan, where the basis has one
abbrev pub adjusted : Basis → Booking → LoanMoved → List Transaction
adjusted Cash b m = []
adjusted Accrual b m = transaction_with b (adjusted_postings b m) ∷ []

-- the transactions of a change of a loan on a basis
abbrev pub moved : Basis → Booking → LoanMoved → List Transaction
moved basis b m = transaction_with b (moved_postings b m) ∷ adjusted basis b m
