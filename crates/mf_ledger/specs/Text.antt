-- The text of transactions, as a journal of hledger or of beancount: https://hledger.org/hledger.html#journal,
-- https://beancount.github.io/docs/beancount_language_syntax.html
use Rattle.std.specs.Prelude.{ℕ, ◌-◌, ◌+◌, cond, ℤ, pos, negsuc, List, [], ◌∷◌, ◌++◌, length, codes, decimal}
use Rattle.std.specs.Prelude.{Option, Some, None}
use Rattle.std.specs.List.{flat_map}
use Rattle.std.specs.Option.{unwrap_or}
use Rattle.mf_base.specs.DayText.{day_text}
use Rattle.mf_base.specs.Money.{money_text}
use Rattle.mf_base.specs.Texts.{right}
use Rattle.mf_office.specs.declared.account.Account.{Account}
use Rattle.mf_office.specs.Written as written
use Rattle.mf_ledger.specs.declared.books.Posting.{Posting}
use Rattle.mf_ledger.specs.declared.books.Transaction.{Transaction}
use Rattle.mf_ledger.specs.declared.names.GivenName.{GivenName}
use Rattle.mf_ledger.specs.declared.names.Program.{Program}
use Rattle.mf_ledger.specs.declared.names.Program.TheVariants.{Hledger, Beancount}
use Rattle.mf_ledger.specs.declared.occasion.Occasion.{Occasion}
use Rattle.mf_ledger.specs.Books.{is_moved, some_moves}
use Rattle.mf_ledger.specs.Names.{given_for, name_of}

-- what a transaction is of
abbrev pub occasion_of : Transaction → Occasion
occasion_of t = record { day = t.day; number = t.number; loan = Some t.loan }

-- an opening is of a day, stands before the first line of the journal, and is of no loan
abbrev pub opening_of : ℕ → Occasion
opening_of day = record { day = day; number = 0; loan = None }

-- an amount with two decimals, a minus before a credit
abbrev pub signed_text : ℤ → List ℕ
signed_text (pos n) = money_text n
signed_text (negsuc n) = 45 ∷ money_text (n + 1)

-- the commodity of beancount: ISO 4217's XXX, no currency, or what is given for that
abbrev pub commodity : List GivenName → List ℕ
commodity gs = unwrap_or (given_for gs (codes "XXX")) (codes "XXX")

-- what stands behind an amount
abbrev pub line_end : Program → List GivenName → List ℕ
line_end Hledger gs = codes "\n"
line_end Beancount gs = codes " " ++ (commodity gs ++ codes "\n")

-- the line of a posting: four spaces, its account, two spaces or more, and its amount, which ends in column 72
abbrev pub moved_text : Program → List GivenName → Posting → List ℕ
moved_text program gs p =
    codes "    " ++ (name_of program gs p.account ++ (codes "  "
    ++ (right (66 - length (name_of program gs p.account)) (signed_text p.amount) ++ line_end program gs)))

-- nothing where its amount is 0
abbrev pub posting_text : Program → List GivenName → Posting → List ℕ
posting_text program gs p = cond (is_moved p.amount) (moved_text program gs p) []

-- the lines of postings
abbrev pub postings_text : Program → List GivenName → List Posting → List ℕ
postings_text program gs postings = flat_map (posting_text program gs) postings

-- the number of the line of the journal, and the loan
abbrev pub about : ℕ → Option Account → List ℕ
about number None = codes "(" ++ (decimal number ++ codes ") opening balances")
about number (Some loan) =
    codes "(" ++ (decimal number ++ (codes ") loan " ++ written.account_text loan.office loan.number))

-- the first line: the date, and what the transaction is about
abbrev pub heading : Program → Occasion → List ℕ
heading Hledger o = day_text o.day ++ (codes " " ++ (about o.number o.loan ++ codes "\n"))
heading Beancount o = day_text o.day ++ (codes " * \"" ++ (about o.number o.loan ++ codes "\"\n"))

-- postings under a heading, and an empty line behind them; nothing where no amount is moved
abbrev pub booked_text : Program → List GivenName → Occasion → List Posting → List ℕ
booked_text program gs o postings =
    cond (some_moves postings) (heading program o ++ (postings_text program gs postings ++ codes "\n")) []

-- the text of a transaction
abbrev pub transaction_text : Program → List GivenName → Transaction → List ℕ
transaction_text program gs t = booked_text program gs (occasion_of t) t.postings

-- the text of the opening postings of a day
abbrev pub opening_text : Program → List GivenName → ℕ → List Posting → List ℕ
opening_text program gs day postings = booked_text program gs (opening_of day) postings

-- what stands before the first transaction: beancount is told to open each account where it is first named
abbrev pub preamble : Program → List ℕ
preamble Hledger = []
preamble Beancount = codes "plugin \"beancount.plugins.auto_accounts\"\n\n"
