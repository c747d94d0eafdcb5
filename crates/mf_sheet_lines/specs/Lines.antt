-- What a line of a sheet asks for.
use Rattle.std.specs.Prelude.{ℕ, ◌&&◌, Bool, false, codes, List, [], ◌∷◌, Option, Some, None, option_and_then, ◌≤◌}
use Rattle.std.specs.Option.{option_map, option_map_or}
use Rattle.std.specs.Str.{str_eq_ignore_ascii_case}
use Rattle.mf_account.specs.Receipts.{IsReceipt}
use Rattle.mf_base.specs.DayText.{last_entered_day}
use Rattle.mf_base.specs.Money.{money_limit}
use Rattle.mf_office.specs.Texts.{account_of, IsAccount}
use Rattle.mf_sheet_lines.specs.declared.line.SheetLine.{SheetLine}
use Rattle.mf_sheet_lines.specs.declared.line.SheetLine.TheVariants.{Repay, Bad}
use Rattle.mf_sheet_lines.specs.declared.line.SheetRepayment.{SheetRepayment}
use Rattle.mf_sheet_lines.specs.Fields.{without_blanks, receipt_written, day_written, amount_written}

-- the fields of a line, by their columns
pub record LineFields : Type 0 where
  pub receipt : List ℕ
  pub loan : List ℕ
  pub date : List ℕ
  pub amount : List ℕ

-- the fields of a record that has four
abbrev pub four_columns_of : List (List ℕ) → Option LineFields
four_columns_of (receipt ∷ loan ∷ date ∷ amount ∷ []) =
    Some (record { receipt = receipt; loan = loan; date = date; amount = amount })
four_columns_of _ = None

-- the repayment that four texts write
abbrev pub repayment_of : List ℕ → List ℕ → List ℕ → List ℕ → Option SheetRepayment
repayment_of receipt loan date amount =
    option_and_then (λ r. option_and_then (λ l. option_and_then (λ d. option_map
    (λ a. record { receipt = r; loan = l; day = d; amount = a })
    (amount_written amount)) (day_written date)) (account_of loan)) (receipt_written receipt)

-- the repayment that four fields write; spaces and tabs round a field don't count
abbrev pub repayment_in : LineFields → Option SheetRepayment
repayment_in c = repayment_of (without_blanks c.receipt) (without_blanks c.loan) (without_blanks c.date)
    (without_blanks c.amount)

-- what a line asks for: a repayment, where there are four fields and each is as it should be
abbrev pub repay_or_bad : Option SheetRepayment → SheetLine
repay_or_bad None = Bad
repay_or_bad (Some repayment) = Repay repayment

-- the line that a record's fields are
abbrev pub sheet_line_of : List (List ℕ) → SheetLine
sheet_line_of fields = repay_or_bad (option_and_then repayment_in (four_columns_of fields))

-- the ranges of what a repayment says
pub record IsRepaymentInRange (r : SheetRepayment) : Type 0 where
  pub receipt : IsReceipt r.receipt
  pub loan : IsAccount r.loan
  pub day : r.day ≤ last_entered_day
  pub least : 1 ≤ r.amount
  pub most : r.amount ≤ money_limit

-- the members of a line, in range
abbrev pub IsLineInRange : SheetLine → Type 0
IsLineInRange Bad = Unit {0}
IsLineInRange (Repay r) = IsRepaymentInRange r

-- the field is this name, in any case of ASCII
abbrev pub is_column_name : List ℕ → List ℕ → Bool
is_column_name name field = str_eq_ignore_ascii_case (without_blanks field) name

-- a record of the names of the columns
abbrev pub are_names : LineFields → Bool
are_names c = is_column_name (codes "receipt") c.receipt && is_column_name (codes "loan") c.loan
    && is_column_name (codes "date") c.date
    && is_column_name (codes "amount") c.amount

-- the fields are the names of the columns
abbrev pub names_columns : List (List ℕ) → Bool
names_columns fields = option_map_or are_names (four_columns_of fields) false
