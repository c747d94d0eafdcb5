-- A loan: what it was disbursed on, and its entries. All else is worked out from these.
use Rattle.std.specs.Prelude.{◌≡◌, ◌≢◌, ℕ, ◌+◌, ◌<◌, ◌≤◌, ◌^◌, true, false, List, length, All, None}
use Rattle.mf_base.specs.DayText.{last_entered_day}
use Rattle.mf_catalog.specs.declared.terms.Terms.{Terms}
use Rattle.mf_schedule.specs.declared.instalment.FreshInstalment.{FreshInstalment}
use Rattle.mf_schedule.specs.Fresh.{fresh_schedule, fee_at_disbursement, IsLoanWithinLimits}
use Rattle.mf_alloc.specs.declared.row.Portion.TheVariants as portion
use Rattle.mf_alloc.specs.declared.row.Portion.TheVariants.{Principal}
use Rattle.mf_alloc.specs.declared.row.Cell.{Cell}
use Rattle.mf_alloc.specs.Order.{cell_by, place_by, due_by}
use Rattle.mf_account.specs.declared.entry.Entry.{Entry}
use Rattle.mf_account.specs.declared.entry.Kind.{Kind}
use Rattle.mf_account.specs.declared.entry.Kind.TheVariants.{Repay, Fee, Penalty, Waive, WriteOff, Refund}
use Rattle.mf_account.specs.declared.settled.SettledPart.{SettledPart}
use Rattle.mf_account.specs.Kinds.{is_seal}
use Rattle.mf_account.specs.Effect.{State}
use Rattle.mf_account.specs.Account.{Orders, orders_by, first_state, state_of, settled_of, status_of}
use Rattle.mf_account.specs.Standing.{is_before, standing_entries, entry_at, entries_at}
use Rattle.mf_account.specs.Safe.{IsSafe}

-- a disbursed loan: its terms, its principal in cents, its day of disbursement and its entries
pub record DisbursedLoan : Type 0 where
  pub terms : Terms
  pub principal : ℕ
  pub periods : ℕ
  pub day : ℕ
  pub entries : List Entry

-- what a kind of entry holds in its columns, for a loan of n instalments
abbrev pub HasColumns : Kind → ℕ → Entry → Type 0
HasColumns Repay n e = (1 ≤ e.amount) × (e.amount ≤ 10 ^ 12) × (e.instalment ≡ 0) × (e.portion ≡ Principal)
HasColumns Fee n e = (1 ≤ e.amount) × (e.amount ≤ 10 ^ 12) × (1 ≤ e.instalment) × (e.instalment ≤ n)
    × (e.portion ≡ portion.Fee) × (e.receipt ≡ None)
HasColumns Penalty n e = (1 ≤ e.amount) × (e.amount ≤ 10 ^ 12) × (1 ≤ e.instalment) × (e.instalment ≤ n)
    × (e.portion ≡ portion.Penalty) × (e.receipt ≡ None)
HasColumns Waive n e = (e.amount ≡ 0) × (1 ≤ e.instalment) × (e.instalment ≤ n) × (e.portion ≢ Principal)
    × (e.receipt ≡ None)
HasColumns WriteOff n e = (e.amount ≡ 0) × (e.instalment ≡ 0) × (e.portion ≡ Principal) × (e.receipt ≡ None)
HasColumns Refund n e = (e.amount ≡ 0) × (e.instalment ≡ 0) × (e.portion ≡ Principal) × (e.receipt ≡ None)

-- an entry of a loan of n instalments, disbursed on a day: dated no earlier, with the columns of its kind
pub record IsEntry (n day : ℕ) (e : Entry) : Type 0 where
  pub from : day ≤ e.day
  pub columns : HasColumns e.kind n e

-- a standing write-off or refund is the last: every other standing entry comes before it
abbrev pub SealIsLast : List Entry → Type 0
SealIsLast entries =
    (i j : ℕ) → i < length entries → j < length entries → i ≢ j → (entry_at entries i).reversed ≡ false
    → (entry_at entries j).reversed ≡ false → is_seal (entry_at entries i).kind ≡ true → is_before (entry_at entries j)
    (entry_at entries i) ≡ true

-- the entries of one loan: numbered from 1 in order, within the limit
pub record AreEntries (n day : ℕ) (entries : List Entry) : Type 0 where
  pub numbers : (i : ℕ) → i < length entries → (entry_at entries i).seq ≡ i + 1
  pub few : length entries ≤ 9999
  pub each : All (IsEntry n day) entries
  pub seal_last : SealIsLast entries

-- a loan within the limits, with entries that it may have
pub record IsSoundDisbursed (loan : DisbursedLoan) : Type 0 where
  pub limits : IsLoanWithinLimits loan.terms loan.principal loan.periods
  pub day : loan.day ≤ last_entered_day
  pub entries : AreEntries loan.periods loan.day loan.entries

-- what a loan's account is: its fresh schedule, the order of its strategy at each entry's day, and the fold of its
-- standing entries
abbrev pub schedule_of : DisbursedLoan → List FreshInstalment
schedule_of loan = fresh_schedule loan.terms loan.principal loan.periods loan.day

-- the order of a loan's cells where so many instalments are due
abbrev pub cells_of : DisbursedLoan → ℕ → ℕ → ℕ → Cell
cells_of loan n due = cell_by loan.terms.strategy due

-- the order in which an entry pays a loan's cells, by what is due on its day
abbrev pub orders_of : DisbursedLoan → Orders
orders_of loan = orders_by (cells_of loan) (first_state (schedule_of loan)).rows

-- the places of the cells at an entry
abbrev pub cell_places_of : DisbursedLoan → Entry → Cell → ℕ
cell_places_of loan entry = place_by loan.terms.strategy (due_by entry.day (first_state (schedule_of loan)).rows)

-- the state of a loan: its standing entries replayed on its fresh schedule
abbrev pub state_of_loan : DisbursedLoan → State
state_of_loan loan = state_of (orders_of loan) (schedule_of loan) loan.entries

-- what a loan's standing entries settle
abbrev pub settled_of_loan : DisbursedLoan → List SettledPart
settled_of_loan loan = settled_of (orders_of loan) (schedule_of loan) loan.entries

-- the fee at a loan's disbursement
abbrev pub fee_of_loan : DisbursedLoan → ℕ
fee_of_loan loan = fee_at_disbursement loan.terms loan.principal (schedule_of loan)

-- the status of a loan
abbrev pub status_of_loan : DisbursedLoan → ℕ
status_of_loan loan = status_of loan.entries (state_of_loan loan)

-- what is kept of a loan beside its entries: where its standing entries are among them, in their order, its fresh
-- schedule and fee; and a state and parts, of which no more is known than that they are safe
pub record IsKept (loan : DisbursedLoan) (order : List ℕ) (schedule : List FreshInstalment) (fee : ℕ) (state : State)
    (settled : List SettledPart) : Type 0 where
  pub sound : IsSoundDisbursed loan
  pub within : All (λ at. at < length loan.entries) order
  pub order_is : entries_at loan.entries order ≡ standing_entries loan.entries
  pub schedule_is : schedule ≡ schedule_of loan
  pub fee_is : fee ≡ fee_of_loan loan
  pub safe : IsSafe loan.periods (length loan.entries) state settled
