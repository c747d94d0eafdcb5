-- By what clients are found.
use Rattle.std.specs.Prelude.{ℕ, Bool, false, cond, ◌||◌, ◌==◌, List, Option, Some, None, option_map}
use Rattle.mf_folding.specs.Folding.{folded}
use Rattle.mf_lists.specs.Lists.{has_part}
use Rattle.mf_office.specs.declared.account.Account.{Account}
use Rattle.mf_model.specs.declared.loan.Loan.{Loan}
use Rattle.mf_model.specs.Institution.{Institution}
use Rattle.mf_model.specs.Store.{loan_at}

-- the number that is named, where one is, is this one
abbrev pub is_number : Option ℕ → ℕ → Bool
is_number None n = false
is_number (Some named) n = named == n

-- the number that an account has in an office
abbrev pub number_of : ℕ → Option Account → Option ℕ
number_of office None = None
number_of office (Some account) = cond (account.office == office) (Some account.number) None

-- the client of a loan of an office, where one is named and is there
abbrev pub borrower_at : ℕ → Option ℕ → Institution → Option ℕ
borrower_at office None i = None
borrower_at office (Some number) i =
    option_map (λ (l : Loan). l.client) (loan_at (record { office = office; number = number }) i)

-- a client has a folded part in their name, or is of one of two numbers
abbrev pub is_sought : List ℕ → Option ℕ → Option ℕ → ℕ × List ℕ → Bool
is_sought part client borrower c =
    has_part part (folded c.1) || (is_number client c.0 || is_number borrower c.0)
