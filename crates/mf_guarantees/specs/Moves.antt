-- What has been repaid and what was paid out: of a loan, of an office and of all.
use Rattle.std.specs.Prelude.{◌≡◌, ◌≢◌, ℕ, ◌+◌, sum_by, Option, Some, None}
use Rattle.mf_office.specs.declared.account.Account.{Account}
use Rattle.mf_account.specs.Balance.{sum_repaid}
use Rattle.mf_model.specs.Institution.{Institution, Ledger, Office}
use Rattle.mf_model.specs.Stages.{disbursed_on}
use Rattle.mf_model.specs.Store.{rows_at, ledger_at}

-- what the standing repayments of a loan come to
abbrev pub repaid : Ledger → ℕ
repaid l = sum_repaid l.entries

-- an amount, where there is a day
abbrev pub if_dated : Option ℕ → ℕ → ℕ
if_dated None amount = 0
if_dated (Some day) amount = amount

-- the principal of a loan, once it is paid out
abbrev pub paid_out : Ledger → ℕ
paid_out l = if_dated (disbursed_on l.loan.stage) l.loan.principal

-- what is read of a loan; 0 where there is none
abbrev pub sum_or_zero : (Ledger → ℕ) → Option Ledger → ℕ
sum_or_zero read None = 0
sum_or_zero read (Some l) = read l

-- a sum of one loan
abbrev pub loan_sum : (Ledger → ℕ) → Account → Institution → ℕ
loan_sum read loan i = sum_or_zero read (ledger_at loan i)

-- over the loans of office x
abbrev pub office_sum : (Ledger → ℕ) → ℕ → Institution → ℕ
office_sum read x i = sum_by read (rows_at x i).loans

-- over the loans of all offices
abbrev pub whole_sum : (Ledger → ℕ) → Institution → ℕ
whole_sum read i = sum_by (λ (f : Office). sum_by read f.rows.loans) i.offices

-- a sum of a loan is higher by an amount, so are that of its office and that of all, and no other has moved
pub record Rises (read : Ledger → ℕ) (loan : Account) (amount : ℕ) (i j : Institution) : Type 0 where
  pub own : loan_sum read loan j ≡ loan_sum read loan i + amount
  pub office : office_sum read loan.office j ≡ office_sum read loan.office i + amount
  pub all : whole_sum read j ≡ whole_sum read i + amount
  pub other_loans : (other : Account) → other ≢ loan → loan_sum read other j ≡ loan_sum read other i
  pub other_offices : (x : ℕ) → x ≢ loan.office → office_sum read x j ≡ office_sum read x i
