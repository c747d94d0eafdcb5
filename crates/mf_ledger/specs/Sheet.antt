-- The postings of transactions as a sheet of comma-separated values, which spreadsheets, Odoo and ERPNext read:
-- RFC 4180, https://www.rfc-editor.org/rfc/rfc4180
use Rattle.std.specs.Prelude.{ℕ, ◌+◌, ◌*◌, ◌^◌, ◌<◌, ℤ, pos, negsuc, List, [], ◌∷◌, map, filter, codes, decimal, Option}
use Rattle.std.specs.Prelude.{Some, None}
use Rattle.std.specs.List.{flat_map}
use Rattle.csv.specs.Writing.{default_writer, row_text, with_terminator}
use Rattle.csv.specs.declared.parser.Terminator.TheVariants as terminator
use Rattle.csv.specs.declared.writer.WriterBuilder.{WriterBuilder}
use Rattle.mf_base.specs.DayText.{day_text}
use Rattle.mf_base.specs.Money.{money_text}
use Rattle.mf_office.specs.declared.account.Account.{Account}
use Rattle.mf_office.specs.Texts.{IsAccount}
use Rattle.mf_office.specs.Written as written
use Rattle.mf_ledger.specs.declared.books.Posting.{Posting}
use Rattle.mf_ledger.specs.declared.books.Transaction.{Transaction}
use Rattle.mf_ledger.specs.declared.names.GivenName.{GivenName}
use Rattle.mf_ledger.specs.declared.names.Program.TheVariants.{Hledger}
use Rattle.mf_ledger.specs.declared.occasion.Occasion.{Occasion}
use Rattle.mf_ledger.specs.Books.{is_moved}
use Rattle.mf_ledger.specs.Names.{name_of}
use Rattle.mf_ledger.specs.Text.{occasion_of, opening_of}

-- commas between fields, quotes where a field needs them, and a line ended by a carriage return and a line feed
abbrev pub sheet_writer : WriterBuilder
sheet_writer = with_terminator default_writer terminator.CRLF

-- the loan, where there is one
abbrev pub loan_text : Option Account → List ℕ
loan_text None = []
loan_text (Some loan) = written.account_text loan.office loan.number

-- what is debited, where something is
abbrev pub debit_text : ℤ → List ℕ
debit_text (pos n) = money_text n
debit_text (negsuc n) = []

-- what is credited, where something is
abbrev pub credit_text : ℤ → List ℕ
credit_text (pos n) = []
credit_text (negsuc n) = money_text (n + 1)

-- the fields of a posting: date, number of the line of the journal, loan, account, debit and credit
abbrev pub fields_of : List GivenName → Occasion → Posting → List (List ℕ)
fields_of gs o p =
    day_text o.day ∷ decimal o.number ∷ loan_text o.loan ∷ name_of Hledger gs p.account ∷ debit_text p.amount
    ∷ credit_text p.amount ∷ []

-- the rows of postings: one for each whose amount isn't 0
abbrev pub rows_of : List GivenName → Occasion → List Posting → List (List (List ℕ))
rows_of gs o postings = map (fields_of gs o) (filter (λ (p : Posting). is_moved p.amount) postings)

-- the lines of rows
abbrev pub sheet_text : List (List (List ℕ)) → List ℕ
sheet_text rows = flat_map (row_text sheet_writer) rows

-- the first row names the columns
abbrev pub columns : List (List ℕ)
columns = codes "date" ∷ codes "number" ∷ codes "loan" ∷ codes "account" ∷ codes "debit" ∷ codes "credit" ∷ []

-- the rows of a transaction
abbrev pub transaction_rows : List GivenName → Transaction → List (List (List ℕ))
transaction_rows gs t = rows_of gs (occasion_of t) t.postings

-- the rows of the opening postings of a day
abbrev pub opening_rows : List GivenName → ℕ → List Posting → List (List (List ℕ))
opening_rows gs day postings = rows_of gs (opening_of day) postings

-- a loan, if there is one, has the numbers of an account
abbrev pub IsLoan : Option Account → Type 0
IsLoan None = Unit {0}
IsLoan (Some loan) = IsAccount loan

-- what the books can be of: a number of 64 bits, and a loan
pub record IsOccasion (o : Occasion) : Type 0 where
  pub number : o.number < 2 ^ 64
  pub loan : IsLoan o.loan

-- an amount whose units fit 64 bits, as all of the books do
abbrev pub IsWritten : ℤ → Type 0
IsWritten (pos n) = n < 100 * 2 ^ 64
IsWritten (negsuc n) = n + 1 < 100 * 2 ^ 64
