-- The books of an institution, and the transactions of a run.
use Rattle.std.specs.Prelude.{ℕ, ◌+◌, ◌==◌, nat_le, Bool, true, cond, ◌&&◌, ℤ, pos, List, [], ◌∷◌, ◌++◌, filter}
use Rattle.std.specs.Prelude.{is_some, Option, Some, None}
use Rattle.mf_office.specs.declared.account.Account.{Account}
use Rattle.mf_model.specs.Accounts.{no_balances}
use Rattle.mf_model.specs.declared.request.Request.{Request}
use Rattle.mf_model.specs.declared.request.Request.TheVariants as request
use Rattle.mf_model.specs.Institution.{Institution, Catalogue, Ledger, Office}
use Rattle.mf_model.specs.Run.{Line, change_of_line, next}
use Rattle.mf_model.specs.Store.{ledger_at}
use Rattle.mf_ledger.specs.declared.books.LoanSums.{LoanSums}
use Rattle.mf_ledger.specs.declared.books.Posting.{Posting}
use Rattle.mf_ledger.specs.declared.books.Title.{Title}
use Rattle.mf_ledger.specs.declared.books.Transaction.{Transaction}
use Rattle.mf_ledger.specs.Books.{is_title, signed_sum, sums_in, amount_on, postings_between}

-- Which offices and products are meant. Those of one account of the books are one office and one product.
abbrev pub Selection : Type 0
Selection = ℕ → ℕ → Bool

-- all offices and products
abbrev pub everything : Selection
everything = λ x p. true

-- one office and one product
abbrev pub one : ℕ → ℕ → Selection
one office product = λ x p. (x == office) && (p == product)

-- an amount, where it is meant
abbrev pub where_meant : Bool → ℤ → ℤ
where_meant b amount = cond b amount (pos 0)

-- what a loan of an office has on the account of a title, where it is meant
abbrev pub loan_balance : Title → Selection → Catalogue → ℕ → Ledger → ℤ
loan_balance title meant k office l = where_meant (meant office l.loan.product) (amount_on title (sums_in k l))

-- what the loans of an office have there
abbrev pub office_balance : Title → Selection → Catalogue → Office → ℤ
office_balance title meant k f = signed_sum (loan_balance title meant k f.number) f.rows.loans

-- The balance of an institution on the accounts of a title, over the offices and products that are meant.
abbrev pub balance : Title → Selection → Institution → ℤ
balance title meant i = signed_sum (office_balance title meant i.catalogue) i.offices

-- what the books read of a loan that may be there
abbrev pub sums_of : Catalogue → Option Ledger → LoanSums
sums_of k None = record { lent = 0; repaid = 0; balances = no_balances }
sums_of k (Some l) = sums_in k l

-- its product
abbrev pub product_of_loan : Option Ledger → ℕ
product_of_loan None = 0
product_of_loan (Some l) = l.loan.product

-- the postings of what becomes of a loan from one institution to the next
abbrev pub loan_postings : Account → Institution → Institution → List Posting
loan_postings loan i j = postings_between loan.office (product_of_loan (ledger_at loan i))
    (sums_of i.catalogue (ledger_at loan i)) (sums_of j.catalogue (ledger_at loan j))

-- the transaction of the line of the journal of this number: that of the loan that its request names, if it names one
abbrev pub transactions_of : ℕ → Request → Institution → Institution → List Transaction
transactions_of number (request.Loan loan asked) i j =
    record { number = number; day = i.catalogue.day; loan = loan; postings = loan_postings loan i j } ∷ []
transactions_of number _ i j = []

-- the transactions of a run, behind so many lines of the journal: one for each accepted request on a loan that changed
-- something, dated with the business day on which it was accepted
abbrev pub transactions : ℕ → List Line → Institution → List Transaction
transactions n [] i = []
transactions n (l ∷ ls) i = cond (is_some (change_of_line l i))
    (transactions_of (n + 1) l.call.request i (next l i) ++ transactions (n + 1) ls (next l i))
    (transactions n ls (next l i))

-- what a posting moves there
abbrev pub posted_by : Title → Selection → Posting → ℤ
posted_by title meant p =
    where_meant (is_title p.account.title title && meant p.account.office p.account.product) p.amount

-- what transactions move on the accounts of a title, over the offices and products that are meant
abbrev pub posted : Title → Selection → List Transaction → ℤ
posted title meant ts = signed_sum (λ (t : Transaction). signed_sum (posted_by title meant) t.postings) ts

-- what all postings of a transaction come to
abbrev pub posted_in_all : Transaction → ℤ
posted_in_all t = signed_sum (λ (p : Posting). p.amount) t.postings

-- the transactions of a span of business days, the first and the last included
abbrev pub between : ℕ → ℕ → List Transaction → List Transaction
between first last ts = filter (λ (t : Transaction). nat_le first t.day && nat_le t.day last) ts

-- the institution at the end of a business day of the run: before the first line that comes on a later one
abbrev pub at_end_of : ℕ → List Line → Institution → Institution
at_end_of day [] i = i
at_end_of day (l ∷ ls) i = cond (nat_le i.catalogue.day day) (at_end_of day ls (next l i)) i
