-- The loans of an institution, one behind the other, and what falls due of them.
use Rattle.std.specs.Prelude.{ℕ, ◌+◌, List, [], ◌∷◌, option_map}
use Rattle.std.specs.List.{flat_map}
use Rattle.mf_account.specs.Change.{account_by_replay}
use Rattle.mf_office.specs.declared.account.Account.{Account}
use Rattle.mf_ledger.specs.Accrual.{due_between, falling_due}
use Rattle.mf_ledger.specs.declared.basis.Basis.{Basis}
use Rattle.mf_ledger.specs.declared.basis.Basis.TheVariants.{Cash, Accrual}
use Rattle.mf_ledger.specs.declared.books.Transaction.{Transaction}
use Rattle.mf_model.specs.Accounts.{account_in}
use Rattle.mf_model.specs.Institution.{Catalogue, Institution, Ledger, Office}
use Rattle.mf_ledger_play.specs.declared.held.HeldLoan.{HeldLoan}

-- the loans of an office, numbered from m on
abbrev pub numbered : ℕ → ℕ → List Ledger → List (Account × Ledger)
numbered office m [] = []
numbered office m (l ∷ ls) = (record { office = office; number = m }, l) ∷ numbered office (m + 1) ls

-- all loans of an institution
abbrev pub all_loans : Institution → List (Account × Ledger)
all_loans i = flat_map (λ (f : Office). numbered f.number 1 f.rows.loans) i.offices

-- a loan as it is held
abbrev pub held_of : Catalogue → Account × Ledger → HeldLoan
held_of k x = record {
  loan = x.0;
  product = x.1.loan.product;
  account = option_map account_by_replay (account_in k x.1);
}

-- what falls due of it on a day
abbrev pub loan_due : ℕ → ℕ → Catalogue → Account × Ledger → Transaction
loan_due n day k x = falling_due n day k x.0.office x.0.number x.1

-- what the passing of days adds on a basis to the line of the journal of this number
abbrev pub passed_of : Basis → ℕ → ℕ → Institution → List Transaction
passed_of Cash n since j = []
passed_of Accrual n since j = due_between n since j.catalogue.day j
