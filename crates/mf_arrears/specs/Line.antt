-- Classes of days overdue, and an office's line.
use Rattle.std.specs.Prelude.{ℕ, ◌+◌, ◌*◌, ◌≤◌, ◌^◌, ◌==◌, nat_le, if◌then◌else◌, List, length, sum_by, ℤ, pos, negsuc}
use Rattle.mf_base.specs.Rounding.{half_even}
use Rattle.mf_arrears.specs.declared.line.Class.{Class}
use Rattle.mf_arrears.specs.declared.line.Class.TheVariants.{C0, C1To30, C31To60, C61To90, Over90}

-- the class of a number of days overdue
abbrev pub class_by : ℕ → Class
class_by days =
    if days == 0 then C0
    else (if nat_le days 30 then C1To30
    else (if nat_le days 60 then C31To60
    else (if nat_le days 90 then C61To90 else Over90)))

-- a negative number is of the class of 0
abbrev pub class_of : ℤ → Class
class_of (pos days) = class_by days
class_of (negsuc days) = C0

-- an active loan: its outstanding principal and its days overdue
pub record AgedLoan : Type 0 where
  pub principal : ℕ
  pub days : ℤ

-- a line: how many loans, their outstanding principal, and that of each class
pub record OfficeLine : Type 0 where
  pub office : ℕ
  pub loans : ℕ
  pub outstanding : ℕ
  pub c1_30 : ℕ
  pub c31_60 : ℕ
  pub c61_90 : ℕ
  pub over_90 : ℕ

-- a loan is at most 10^12, and of one class at most
pub record IsLine (loans outstanding c1_30 c31_60 c61_90 over_90 : ℕ) : Type 0 where
  pub most : outstanding ≤ 10 ^ 12 * loans
  pub classes : c1_30 + c31_60 + c61_90 + over_90 ≤ outstanding

-- a loan's principal where it is of the class
abbrev pub if_1_30 : Class → ℕ → ℕ
if_1_30 C1To30 amount = amount
if_1_30 C0 amount = 0
if_1_30 C31To60 amount = 0
if_1_30 C61To90 amount = 0
if_1_30 Over90 amount = 0

-- an amount that is 31 to 60 days overdue
abbrev pub if_31_60 : Class → ℕ → ℕ
if_31_60 C31To60 amount = amount
if_31_60 C0 amount = 0
if_31_60 C1To30 amount = 0
if_31_60 C61To90 amount = 0
if_31_60 Over90 amount = 0

-- an amount that is 61 to 90 days overdue
abbrev pub if_61_90 : Class → ℕ → ℕ
if_61_90 C61To90 amount = amount
if_61_90 C0 amount = 0
if_61_90 C1To30 amount = 0
if_61_90 C31To60 amount = 0
if_61_90 Over90 amount = 0

-- an amount that is over 90 days overdue
abbrev pub if_over_90 : Class → ℕ → ℕ
if_over_90 Over90 amount = amount
if_over_90 C0 amount = 0
if_over_90 C1To30 amount = 0
if_over_90 C31To60 amount = 0
if_over_90 C61To90 amount = 0

-- the principal of the loans in a class
abbrev pub sum_in : (Class → ℕ → ℕ) → List AgedLoan → ℕ
sum_in chosen loans = sum_by (λ (loan : AgedLoan). chosen (class_of loan.days) loan.principal) loans

-- the line of an office's active loans
abbrev pub line_of_loans : ℕ → List AgedLoan → OfficeLine
line_of_loans office loans = record {
  office = office;
  loans = length loans;
  outstanding = sum_by (λ (loan : AgedLoan). loan.principal) loans;
  c1_30 = sum_in if_1_30 loans;
  c31_60 = sum_in if_31_60 loans;
  c61_90 = sum_in if_61_90 loans;
  over_90 = sum_in if_over_90 loans;
}

-- a line with one loan more
abbrev pub with_loan : OfficeLine → ℕ → ℤ → OfficeLine
with_loan line principal days = record {
  office = line.office;
  loans = line.loans + 1;
  outstanding = line.outstanding + principal;
  c1_30 = line.c1_30 + if_1_30 (class_of days) principal;
  c31_60 = line.c31_60 + if_31_60 (class_of days) principal;
  c61_90 = line.c61_90 + if_61_90 (class_of days) principal;
  over_90 = line.over_90 + if_over_90 (class_of days) principal;
}

-- a part of a whole, in hundredths of a percent; 0 of nothing
abbrev pub hundredths_of : ℕ → ℕ → ℕ
hundredths_of whole part = if whole == 0 then 0 else half_even (10000 * part) whole

-- the part of more than 30 days, in hundredths of a percent
abbrev pub par30_of : OfficeLine → ℕ
par30_of line = hundredths_of line.outstanding (line.c31_60 + line.c61_90 + line.over_90)
