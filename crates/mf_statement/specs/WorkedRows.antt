-- Worked rows: 100000 cents at 12 percent for 3 months of equal principal, disbursed on 2024-01-31.
use Rattle.std.specs.Prelude.{◌≡◌, ℕ, Bool, true, false, List, [], ◌∷◌, None}
use Rattle.mf_base.specs.Calendar.{day_of}
use Rattle.mf_base.specs.declared.day.Freq.TheVariants.{Months}
use Rattle.mf_catalog.specs.declared.terms.Method.TheVariants.{EqualPrincipal}
use Rattle.mf_catalog.specs.declared.terms.StrategyName.{StrategyName}
use Rattle.mf_catalog.specs.declared.terms.StrategyName.TheVariants.{MifosStandard, PrincipalFirst, InterestFirst}
use Rattle.mf_catalog.specs.declared.terms.StrategyName.TheVariants.{DueFirst}
use Rattle.mf_alloc.specs.declared.row.Portion.{Portion}
use Rattle.mf_alloc.specs.declared.row.Portion.TheVariants as portion
use Rattle.mf_alloc.specs.declared.row.Portion.TheVariants.{Interest, Principal}
use Rattle.mf_alloc.specs.declared.row.Share.{Share}
use Rattle.mf_account.specs.declared.entry.Entry.{Entry}
use Rattle.mf_account.specs.declared.entry.Kind.{Kind}
use Rattle.mf_account.specs.declared.entry.Kind.TheVariants.{Repay, Fee, Penalty, Waive, WriteOff, Refund}
use Rattle.mf_account.specs.Loan.{DisbursedLoan}
use Rattle.mf_statement.specs.declared.lines.EntryLine.{EntryLine}
use Rattle.mf_statement.specs.declared.lines.InstalmentLine.{InstalmentLine}
use Rattle.mf_statement.specs.Lines.{instalments_of, entries_of}

-- 2024-01-31, 2024-02-29, 2024-03-31 and 2024-04-30
abbrev pub january : ℕ
january = 8796

-- 29 February 2024
abbrev pub february : ℕ
february = 8825

-- 31 March 2024
abbrev pub march : ℕ
march = 8856

-- 30 April 2024
abbrev pub april : ℕ
april = 8886

-- these numbers are these days
abbrev pub AreDays : Type 0
AreDays =
    (day_of (record { year = 2024; month = 1; day = 31 }) ≡ january)
    × (day_of (record { year = 2024; month = 2; day = 29 }) ≡ february)
    × (day_of (record { year = 2024; month = 3; day = 31 }) ≡ march)
    × (day_of (record { year = 2024; month = 4; day = 30 }) ≡ april)

-- the loan with entries, by a strategy
abbrev pub loan_by : StrategyName → List Entry → DisbursedLoan
loan_by strategy entries = record {
  terms = record {
    method = EqualPrincipal;
    rate = 1200;
    freq = Months;
    every = 1;
    principal_grace = 0;
    interest_grace = 0;
    strategy = strategy;
    disbursement = None;
    instalment = None;
    overdue = None;
  };
  principal = 100000;
  periods = 3;
  day = january;
  entries = entries;
}

-- the loan with entries, by the first strategy
abbrev pub loan : List Entry → DisbursedLoan
loan entries = loan_by MifosStandard entries

-- an entry with its columns
abbrev pub entry : ℕ → Kind → ℕ → ℕ → ℕ → Portion → Bool → Entry
entry seq kind day amount instalment portion reversed = record {
  seq = seq;
  kind = kind;
  day = day;
  amount = amount;
  instalment = instalment;
  portion = portion;
  receipt = None;
  staff = record { office = 1; staff = 1 };
  reversed = reversed;
}

-- a repayment that stands
abbrev pub worked_repayment : ℕ → ℕ → ℕ → Entry
worked_repayment seq day amount = entry seq Repay day amount 0 Principal false

-- the line of an entry
abbrev pub line_told : Entry → ℕ → List Share → EntryLine
line_told e amount shares = record { entry = e; amount = amount; shares = shares }

-- a share of a cell
abbrev pub share : ℕ → Portion → ℕ → Share
share instalment portion amount = record {
  cell = record { instalment = instalment; portion = portion };
  amount = amount;
}

-- an instalment with its penalties, fees, interest and principal
abbrev pub instalment : ℕ → ℕ → ℕ → ℕ → ℕ → ℕ → ℕ → InstalmentLine
instalment number due penalties fees interest principal outstanding = record {
  number = number;
  due = due;
  owed = penalties ∷ fees ∷ interest ∷ principal ∷ [];
  outstanding = outstanding;
}

-- two repayments, in the order of their days and the other way round
abbrev pub first : ℕ → Entry
first seq = worked_repayment seq february 20000

-- the second repayment, by its number
abbrev pub second : ℕ → Entry
second seq = worked_repayment seq march 50000

-- the first repayment's line
abbrev pub first_told : ℕ → EntryLine
first_told seq = line_told (first seq) 20000 (share 1 Interest 1000 ∷ share 1 Principal 19000 ∷ [])

-- the second repayment's line
abbrev pub second_told : ℕ → EntryLine
second_told seq =
    line_told (second seq) 50000
    (share 1 Principal 14333 ∷ share 2 Interest 667 ∷ share 2 Principal 33333 ∷ share 3 Interest 333
    ∷ share 3 Principal 1334 ∷ [])

-- two repayments, as they are shown
abbrev pub AreRepaymentsTold : Type 0
AreRepaymentsTold =
    (entries_of (loan (first 1 ∷ [])) ≡ first_told 1 ∷ [])
    × (entries_of (loan (first 1 ∷ second 2 ∷ [])) ≡ first_told 1 ∷ second_told 2 ∷ [])
    × (entries_of (loan (second 1 ∷ first 2 ∷ [])) ≡ second_told 1 ∷ first_told 2 ∷ [])

-- the instalments after them
abbrev pub AreInstalmentsTold : Type 0
AreInstalmentsTold =
    (instalments_of (loan []) ≡ instalment 1 february 0 0 1000 33333 34333 ∷ instalment 2 march 0 0 667 33333 34000
    ∷ instalment 3 april 0 0 333 33334 33667 ∷ [])
    × (instalments_of (loan (first 1 ∷ second 2 ∷ [])) ≡ instalment 1 february 0 0 1000 33333 0
    ∷ instalment 2 march 0 0 667 33333 0 ∷ instalment 3 april 0 0 333 33334 32000 ∷ [])

-- the same two, principal before interest
abbrev pub IsPrincipalFirstTold : Type 0
IsPrincipalFirstTold =
    entries_of (loan_by PrincipalFirst (first 1 ∷ second 2 ∷ []))
    ≡ line_told (first 1) 20000 (share 1 Principal 20000 ∷ [])
    ∷ line_told (second 2) 50000 (share 1 Principal 13333 ∷ share 1 Interest 1000 ∷ share 2 Principal 33333
    ∷ share 2 Interest 667 ∷ share 3 Principal 1667 ∷ [])
    ∷ []

-- the first of them reversed
abbrev pub first_reversed : Entry
first_reversed = entry 1 Repay february 20000 0 Principal true

-- the first of them reversed, as it is shown
abbrev pub IsReversalTold : Type 0
IsReversalTold =
    entries_of (loan (first_reversed ∷ second 2 ∷ []))
    ≡ line_told first_reversed 20000 []
    ∷ line_told (second 2) 50000 (share 1 Interest 1000 ∷ share 1 Principal 33333 ∷ share 2 Interest 667
    ∷ share 2 Principal 15000 ∷ [])
    ∷ []

-- a fee of 500 on instalment 2, then a repayment of all with an earlier day
abbrev pub worked_fee : Entry
worked_fee = entry 1 Fee march 500 2 portion.Fee false

-- a repayment of more than all that is owed
abbrev pub all : Entry
all = worked_repayment 2 february 102500

-- a fee, as it is shown
abbrev pub IsFeeTold : Type 0
IsFeeTold =
    (entries_of (loan (worked_fee ∷ all ∷ []))
    ≡ line_told worked_fee 500 (share 2 portion.Fee 500 ∷ [])
    ∷ line_told all 102500 (share 1 Interest 1000 ∷ share 1 Principal 33333 ∷ share 2 Interest 667
    ∷ share 2 Principal 33333 ∷ share 3 Interest 333 ∷ share 3 Principal 33334 ∷ [])
    ∷ [])
    × (instalments_of (loan (worked_fee ∷ [])) ≡ instalment 1 february 0 0 1000 33333 34333 ∷ instalment 2 march 0 500
    667
    33333 34500 ∷ instalment 3 april 0 0 333 33334 33667 ∷ [])

-- a penalty of 3433 on instalment 1, then a repayment
abbrev pub penalty : Entry
penalty = entry 1 Penalty march 3433 1 portion.Penalty false

-- a repayment of less than an instalment
abbrev pub little : Entry
little = worked_repayment 2 march 5000

-- a penalty, as it is shown
abbrev pub IsPenaltyTold : Type 0
IsPenaltyTold =
    (entries_of (loan (penalty ∷ little ∷ []))
    ≡ line_told penalty 3433 []
    ∷ line_told little 5000 (share 1 portion.Penalty 3433 ∷ share 1 Interest 1000 ∷ share 1 Principal 567 ∷ [])
    ∷ [])
    × (instalments_of (loan (penalty ∷ little ∷ [])) ≡ instalment 1 february 3433 0 1000 33333 32766
    ∷ instalment 2 march 0 0 667 33333 34000 ∷ instalment 3 april 0 0 333 33334 33667 ∷ [])

-- the interest of instalment 2 waived; then it is paid with an earlier day, and the waiver clears nothing
abbrev pub waiver : Entry
waiver = entry 1 Waive march 0 2 Interest false

-- a repayment on a day before
abbrev pub earlier_repayment : Entry
earlier_repayment = worked_repayment 2 february 40000

-- a waiver, as it is shown
abbrev pub IsWaiverTold : Type 0
IsWaiverTold =
    (entries_of (loan (waiver ∷ [])) ≡ line_told waiver 667 (share 2 Interest 667 ∷ []) ∷ [])
    × (entries_of (loan (waiver ∷ earlier_repayment ∷ []))
    ≡ line_told waiver 0 []
    ∷ line_told earlier_repayment 40000 (share 1 Interest 1000 ∷ share 1 Principal 33333 ∷ share 2 Interest 667
    ∷ share 2 Principal 5000 ∷ [])
    ∷ [])

-- what is left after the two repayments written off
abbrev pub write_off : Entry
write_off = entry 3 WriteOff march 0 0 Principal false

-- a write-off, as it is shown
abbrev pub IsWriteOffTold : Type 0
IsWriteOffTold =
    entries_of (loan (first 1 ∷ second 2 ∷ write_off ∷ []))
    ≡ first_told 1 ∷ second_told 2 ∷ line_told write_off 32000 (share 3 Principal 32000 ∷ []) ∷ []

-- too much repaid and given back, and the refund reversed
abbrev pub overpayment : Entry
overpayment = worked_repayment 1 march 110000

-- the line of a repayment of more than all that is owed
abbrev pub overpayment_told : EntryLine
overpayment_told =
    line_told overpayment 110000
    (share 1 Interest 1000 ∷ share 1 Principal 33333 ∷ share 2 Interest 667 ∷ share 2 Principal 33333
    ∷ share 3 Interest 333 ∷ share 3 Principal 33334 ∷ [])

-- a refund, reversed or standing
abbrev pub refund : Bool → Entry
refund reversed = entry 2 Refund march 0 0 Principal reversed

-- a refund, as it is shown
abbrev pub IsRefundTold : Type 0
IsRefundTold =
    (entries_of (loan (overpayment ∷ refund false ∷ [])) ≡ overpayment_told ∷ line_told (refund false) 8000 [] ∷ [])
    × (entries_of (loan (overpayment ∷ refund true ∷ [])) ≡ overpayment_told ∷ line_told (refund true) 0 [] ∷ [])

-- a penalty of 3433 and a fee of 500 on instalment 1, then the second repayment, interest before principal, penalties
-- and fees last: of 50000, 1000 + 33333 + 3433 + 500 = 38266 go to instalment 1, 667 and what is left, 11067, to
-- instalment 2
abbrev pub fee_on_instalment : ℕ → Entry
fee_on_instalment number = entry 2 Fee march 500 number portion.Fee false

-- what is told of these three entries, interest before principal
abbrev pub IsInterestFirstTold : Type 0
IsInterestFirstTold =
    entries_of (loan_by InterestFirst (penalty ∷ fee_on_instalment 1 ∷ second 3 ∷ []))
    ≡ line_told penalty 3433 []
    ∷ line_told (fee_on_instalment 1) 500 []
    ∷ line_told (second 3) 50000
    (share 1 Interest 1000 ∷ share 1 Principal 33333 ∷ share 1 portion.Penalty 3433 ∷ share 1 portion.Fee 500
    ∷ share 2 Interest 667 ∷ share 2 Principal 11067 ∷ [])
    ∷ []

-- due first: on March 31 instalments 1 and 2 are due, a day before instalment 1 alone. Of 50000, interest is 1000 + 667
-- on that day, and 33333 + 15000 principal; a day before it is 1000 and 33333, then 667 and 15000
abbrev pub day_before : Entry
day_before = worked_repayment 1 8855 50000

-- what is told of a repayment on a due day and on the day before, what is due first
abbrev pub AreDueFirstTold : Type 0
AreDueFirstTold =
    (entries_of (loan_by DueFirst (second 1 ∷ []))
    ≡ line_told (second 1) 50000 (share 1 Interest 1000 ∷ share 2 Interest 667 ∷ share 1 Principal 33333
    ∷ share 2 Principal 15000 ∷ []) ∷ [])
    × (entries_of (loan_by DueFirst (day_before ∷ []))
    ≡ line_told day_before 50000 (share 1 Interest 1000 ∷ share 1 Principal 33333 ∷ share 2 Interest 667
    ∷ share 2 Principal 15000 ∷ []) ∷ [])

-- with a penalty of 3433 on instalment 1 and a fee of 500 on instalment 2: of 80000, what is due takes
-- 3433 + 500 + (1000 + 667) + (33333 + 33333) = 72266, and of the 7734 that are left instalment 3 gets 333 and 7401
abbrev pub much : Entry
much = worked_repayment 3 march 80000

-- what is told of a penalty, a fee on the second instalment and that repayment, what is due first
abbrev pub IsDueFirstTold : Type 0
IsDueFirstTold =
    entries_of (loan_by DueFirst (penalty ∷ fee_on_instalment 2 ∷ much ∷ []))
    ≡ line_told penalty 3433 []
    ∷ line_told (fee_on_instalment 2) 500 []
    ∷ line_told much 80000
    (share 1 portion.Penalty 3433 ∷ share 2 portion.Fee 500 ∷ share 1 Interest 1000 ∷ share 2 Interest 667
    ∷ share 1 Principal 33333 ∷ share 2 Principal 33333
    ∷ share 3 Interest 333
    ∷ share 3 Principal 7401
    ∷ [])
    ∷ []
