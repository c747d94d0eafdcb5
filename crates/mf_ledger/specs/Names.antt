-- The names of accounts: those that the books give them, and those of an institution's own chart.
use Rattle.std.specs.Prelude.{ℕ, ◌==◌, Bool, cond, List, [], ◌∷◌, ◌++◌, Option, Some, None, codes}
use Rattle.std.specs.List.{list_any, filter_map, before_first, after_first}
use Rattle.std.specs.Option.{option_or, unwrap_or}
use Rattle.std.specs.Str.{bytes_eq}
use Rattle.std.specs.Str.Lines.{lines}
use Rattle.mf_office.specs.Written.{zero_padded}
use Rattle.mf_ledger.specs.declared.books.BookAccount.{BookAccount}
use Rattle.mf_ledger.specs.declared.books.Title.{Title}
use Rattle.mf_ledger.specs.declared.books.Title.TheVariants.{Cash, Principal, Interest, Fees, Penalties}
use Rattle.mf_ledger.specs.declared.books.Title.TheVariants.{DisbursementFees, Overpaid, WrittenOff}
use Rattle.mf_ledger.specs.declared.books.Title.TheVariants.{InterestReceivable, FeesReceivable, PenaltiesReceivable}
use Rattle.mf_ledger.specs.declared.books.Title.TheVariants.{InterestWaived, FeesWaived, PenaltiesWaived}
use Rattle.mf_ledger.specs.declared.books.Title.TheVariants.{InterestWrittenOff, FeesWrittenOff, PenaltiesWrittenOff}
use Rattle.mf_ledger.specs.declared.names.GivenName.{GivenName}
use Rattle.mf_ledger.specs.declared.names.Program.{Program}
use Rattle.mf_ledger.specs.declared.names.Program.TheVariants.{Hledger, Beancount}

-- the name of a title, from its kind on, for hledger
abbrev pub hledger_title : Title → List ℕ
hledger_title Cash = codes "assets:cash"
hledger_title Principal = codes "assets:principal"
hledger_title Interest = codes "income:interest"
hledger_title Fees = codes "income:fees"
hledger_title Penalties = codes "income:penalties"
hledger_title DisbursementFees = codes "income:disbursement-fees"
hledger_title Overpaid = codes "liabilities:overpaid"
hledger_title WrittenOff = codes "expenses:written-off"
hledger_title InterestReceivable = codes "assets:interest-receivable"
hledger_title FeesReceivable = codes "assets:fees-receivable"
hledger_title PenaltiesReceivable = codes "assets:penalties-receivable"
hledger_title InterestWaived = codes "expenses:interest-waived"
hledger_title FeesWaived = codes "expenses:fees-waived"
hledger_title PenaltiesWaived = codes "expenses:penalties-waived"
hledger_title InterestWrittenOff = codes "expenses:interest-written-off"
hledger_title FeesWrittenOff = codes "expenses:fees-written-off"
hledger_title PenaltiesWrittenOff = codes "expenses:penalties-written-off"

-- the same for beancount, where each part begins with a capital letter
abbrev pub beancount_title : Title → List ℕ
beancount_title Cash = codes "Assets:Cash"
beancount_title Principal = codes "Assets:Principal"
beancount_title Interest = codes "Income:Interest"
beancount_title Fees = codes "Income:Fees"
beancount_title Penalties = codes "Income:Penalties"
beancount_title DisbursementFees = codes "Income:Disbursement-Fees"
beancount_title Overpaid = codes "Liabilities:Overpaid"
beancount_title WrittenOff = codes "Expenses:Written-Off"
beancount_title InterestReceivable = codes "Assets:Interest-Receivable"
beancount_title FeesReceivable = codes "Assets:Fees-Receivable"
beancount_title PenaltiesReceivable = codes "Assets:Penalties-Receivable"
beancount_title InterestWaived = codes "Expenses:Interest-Waived"
beancount_title FeesWaived = codes "Expenses:Fees-Waived"
beancount_title PenaltiesWaived = codes "Expenses:Penalties-Waived"
beancount_title InterestWrittenOff = codes "Expenses:Interest-Written-Off"
beancount_title FeesWrittenOff = codes "Expenses:Fees-Written-Off"
beancount_title PenaltiesWrittenOff = codes "Expenses:Penalties-Written-Off"

-- the name of a title for a program
abbrev pub title_text : Program → Title → List ℕ
title_text Hledger title = hledger_title title
title_text Beancount title = beancount_title title

-- what stands before the number of the office
abbrev pub before_office : Program → List ℕ
before_office Hledger = codes ":office-"
before_office Beancount = codes ":Office-"

-- what stands before the number of the product
abbrev pub before_product : Program → List ℕ
before_product Hledger = codes ":product-"
before_product Beancount = codes ":Product-"

-- the name of a title in an office, which has four digits
abbrev pub office_text : Program → BookAccount → List ℕ
office_text program a = title_text program a.title ++ (before_office program ++ zero_padded 4 a.office)

-- the name of an account: its title, its office, and its product in three digits or more
abbrev pub account_text : Program → BookAccount → List ℕ
account_text program a =
    title_text program a.title ++ (before_office program ++ (zero_padded 4 a.office ++ (before_product program
    ++ zero_padded 3 a.product)))

-- ---- names of an institution's chart

-- what the first of them that is for a name gives for it
abbrev pub given_for : List GivenName → List ℕ → Option (List ℕ)
given_for [] name = None
given_for (g ∷ gs) name = cond (bytes_eq g.ours name) (Some g.theirs) (given_for gs name)

-- what is given for an account, or else for its title in its office, or else for its title
abbrev pub chart_name : List GivenName → BookAccount → Option (List ℕ)
chart_name gs a =
    option_or (given_for gs (account_text Hledger a))
    (option_or (given_for gs (office_text Hledger a)) (given_for gs (title_text Hledger a.title)))

-- the name by which an account is written: what is given for it, and its own where nothing is
abbrev pub name_of : Program → List GivenName → BookAccount → List ℕ
name_of program gs a = unwrap_or (chart_name gs a) (account_text program a)

-- a sign between two names
abbrev pub is_equals_sign : ℕ → Bool
is_equals_sign b = b == 61

-- what a line gives: for the name before its first `=` what stands behind it; a line without one gives nothing
abbrev pub name_in : List ℕ → Option GivenName
name_in line = cond (list_any is_equals_sign line)
    (Some (record { ours = before_first is_equals_sign line; theirs = after_first is_equals_sign line })) None

-- the names that a file gives, line by line
abbrev pub names_in : List ℕ → List GivenName
names_in text = filter_map name_in (lines text)
