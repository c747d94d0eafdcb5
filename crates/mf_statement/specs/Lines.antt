-- What is told of an account: its instalments and its entries as they stand.
use Rattle.std.specs.Prelude.{ℕ, ◌+◌, cond, List, [], ◌∷◌, map, filter, sum_by, ◌==◌}
use Rattle.mf_alloc.specs.Sums.{Instalment, row_outstanding}
use Rattle.mf_account.specs.declared.entry.Entry.{Entry}
use Rattle.mf_account.specs.declared.entry.Kind.{Kind}
use Rattle.mf_account.specs.declared.entry.Kind.TheVariants.{Repay, Fee, Penalty, Waive, WriteOff, Refund}
use Rattle.mf_account.specs.declared.settled.SettledPart.{SettledPart}
use Rattle.mf_account.specs.declared.settled.How.{How}
use Rattle.mf_account.specs.declared.settled.How.TheVariants.{Paid, Waived, WrittenOff}
use Rattle.mf_account.specs.Account.{shares_in}
use Rattle.mf_account.specs.Change.{KeptAccount}
use Rattle.mf_account.specs.Loan.{DisbursedLoan, state_of_loan, settled_of_loan}
use Rattle.mf_statement.specs.declared.lines.EntryLine.{EntryLine}
use Rattle.mf_statement.specs.declared.lines.InstalmentLine.{InstalmentLine}

-- an instalment as it stands, with its number
abbrev pub instalment_line : ℕ → Instalment → InstalmentLine
instalment_line n row = record { number = n; due = row.due; owed = row.owed; outstanding = row_outstanding row }

-- instalments as they stand, numbered from n on
abbrev pub instalments_from : ℕ → List Instalment → List InstalmentLine
instalments_from n [] = []
instalments_from n (row ∷ rows) = instalment_line n row ∷ instalments_from (n + 1) rows

-- the instalments of a loan
abbrev pub instalments_of : DisbursedLoan → List InstalmentLine
instalments_of a = instalments_from 1 (state_of_loan a).rows

-- what of a part is waived or written off
abbrev pub cleared_by : How → ℕ → ℕ
cleared_by Paid amount = 0
cleared_by Waived amount = amount
cleared_by WrittenOff amount = amount

-- what a part clears: what it waives or writes off
abbrev pub cleared_by_part : SettledPart → ℕ
cleared_by_part s = cleared_by s.how s.amount

-- what an entry clears
abbrev pub cleared_in : ℕ → List SettledPart → ℕ
cleared_in seq settled = sum_by cleared_by_part (filter (λ (s : SettledPart). s.seq == seq) settled)

-- the amount that an entry is told with: as it was entered, or what it clears now. A refund clears what it gives back
abbrev pub amount_told : Kind → Entry → ℕ → ℕ → ℕ
amount_told Repay e cleared refunded = e.amount
amount_told Fee e cleared refunded = e.amount
amount_told Penalty e cleared refunded = e.amount
amount_told Waive e cleared refunded = cleared
amount_told WriteOff e cleared refunded = cleared
amount_told Refund e cleared refunded = cond e.reversed 0 refunded

-- an entry, with its amount and what it settles, where parts are settled and so much is refunded
abbrev pub line_among : List SettledPart → ℕ → Entry → EntryLine
line_among settled refunded e = record {
  entry = e;
  amount = amount_told e.kind e (cleared_in e.seq settled) refunded;
  shares = shares_in e.seq settled;
}

-- an entry of a loan
abbrev pub entry_line : DisbursedLoan → Entry → EntryLine
entry_line a e = line_among (settled_of_loan a) (state_of_loan a).refunded e

-- the entries of a loan
abbrev pub entries_of : DisbursedLoan → List EntryLine
entries_of a = map (entry_line a) a.entries

-- the entries of an account, by what it keeps of them
abbrev pub entries_kept : KeptAccount → List EntryLine
entries_kept a = map (line_among a.settled a.state.refunded) a.loan.entries
