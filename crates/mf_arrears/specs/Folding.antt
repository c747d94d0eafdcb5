-- An office's line as the instalments of its loans are taken in, loan by loan.
use Rattle.std.specs.Prelude.{◌≡◌, ℕ, ◌+◌, ◌^◌, ◌≤◌, cond, ◌==◌, List, [], ◌∷◌, ◌++◌, length, pos, sum_by}
use Rattle.std.specs.Prelude.{Option, None, Some}
use Rattle.std.specs.List.{list_any}
use Rattle.mf_alloc.specs.Sums.{Instalment, open_at, is_open}
use Rattle.mf_arrears.specs.Ageing.{earlier, earliest_due, days_since, days_overdue}
use Rattle.mf_arrears.specs.Line.{AgedLoan, OfficeLine, line_of_loans}

-- ---- one loan

-- what is outstanding of the principal of instalments
abbrev pub open_principal : List Instalment → ℕ
open_principal rows = sum_by (λ (row : Instalment). open_at row 3) rows

-- a loan as the report counts it, by its instalments; none where nothing is outstanding
abbrev pub aged_rows : ℕ → List Instalment → List AgedLoan
aged_rows today rows =
    cond (list_any is_open rows) (record { principal = open_principal rows; days = pos (days_overdue rows today) } ∷ [])
    []

-- what is read of a loan: its number, what is outstanding of its principal in cents, and the earliest due day of an
-- instalment with something outstanding
pub record LoanSoFar : Type 0 where
  pub loan : ℕ
  pub principal : ℕ
  pub due : Option ℕ

-- a loan as the report counts it, by the earliest due day of an instalment with something outstanding; none where there
-- is none
abbrev pub aged_by : ℕ → ℕ → Option ℕ → List AgedLoan
aged_by today principal None = []
aged_by today principal (Some due) = record { principal = principal; days = pos (days_since today (Some due)) } ∷ []

-- nothing of a loan with this number
abbrev pub nothing_of : ℕ → LoanSoFar
nothing_of loan = record { loan = loan; principal = 0; due = None }

-- what is read of a loan, with one instalment more
abbrev pub with_row : LoanSoFar → Instalment → LoanSoFar
with_row read row = record read {
  principal = read.principal + open_at row 3;
  due = cond (is_open row)
      (earlier read.due row.due) read.due;
}

-- ---- the loans of an office, an instalment at a time

-- the loans that are counted, and of the next its number and the instalments so far
pub record Progress : Type 0 where
  pub counted : List AgedLoan
  pub loan : ℕ
  pub rows : List Instalment

-- an instalment more, with the number of its loan; one of another loan ends the loan before
abbrev pub step : ℕ → Progress → ℕ × Instalment → Progress
step today p item = cond (item.0 == p.loan) (record p { rows = p.rows ++ item.1 ∷ [] })
    (record { counted = p.counted ++ aged_rows today p.rows; loan = item.0; rows = item.1 ∷ [] })

-- what is read of a loan, and its office's line, are so far
pub record IsSoFar (office : ℕ) (p : Progress) (read : LoanSoFar) (line : OfficeLine) : Type 0 where
  pub loan : read.loan ≡ p.loan
  pub principal : read.principal ≡ open_principal p.rows
  pub due : read.due ≡ earliest_due p.rows
  pub line_is : line ≡ line_of_loans office p.counted

-- the loan that is read is not large, and those that are counted are few
pub record IsLow (p : Progress) : Type 0 where
  pub small : open_principal p.rows ≤ 10 ^ 12
  pub few : length p.counted ≤ 999999
