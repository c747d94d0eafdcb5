-- When an entry or a reversal is refused, and with which number. The first that holds counts.
use Rattle.std.specs.Prelude.{◌≡◌, ◌≢◌, ℕ, ◌+◌, ◌-◌, ◌<◌, ◌≤◌, ◌^◌, Bool, false, not, ◌&&◌, ◌||◌, ◌==◌, nat_lt, nat_le}
use Rattle.std.specs.Prelude.{if◌then◌else◌, List, length, Option, Some, None, is_some}
use Rattle.std.specs.List.{list_any}
use Rattle.mf_base.specs.declared.fault.Fault.{Fault}
use Rattle.mf_base.specs.declared.fault.Fault.TheVariants.{F8, F9, F10, F11, F12, F13, F14, F18, F20}
use Rattle.mf_alloc.specs.declared.row.Portion.TheVariants as portion
use Rattle.mf_alloc.specs.declared.row.Portion.TheVariants.{Principal}
use Rattle.mf_alloc.specs.Sums.{Instalment, is_open}
use Rattle.mf_alloc.specs.Rows.{outstanding, row_at}
use Rattle.mf_account.specs.declared.entry.Entry.{Entry}
use Rattle.mf_account.specs.declared.entry.Kind.{Kind}
use Rattle.mf_account.specs.declared.entry.Kind.TheVariants.{Repay, Fee, Penalty, Waive, WriteOff, Refund}
use Rattle.mf_account.specs.Kinds.{is_seal, is_penalty}
use Rattle.mf_account.specs.Applicable.{HasInstalment}
use Rattle.mf_account.specs.Standing.{entry_at}
use Rattle.mf_account.specs.Loan.{DisbursedLoan, state_of_loan, status_of_loan}

-- a write-off or a refund stands
abbrev pub is_standing_seal : Entry → Bool
is_standing_seal e = not e.reversed && is_seal e.kind

-- a write-off or a refund stands
abbrev pub is_sealed : List Entry → Bool
is_sealed entries = list_any is_standing_seal entries

-- a refund needs status 700, every other kind 300
abbrev pub admits : Kind → ℕ → Bool
admits Refund status = status == 700
admits Repay status = status == 300
admits Fee status = status == 300
admits Penalty status = status == 300
admits Waive status = status == 300
admits WriteOff status = status == 300

-- a repayment's day lies before disbursement or after the business day
abbrev pub is_out_of_order : Kind → ℕ → ℕ → ℕ → Bool
is_out_of_order Repay first last day = nat_lt day first || nat_lt last day
is_out_of_order Fee first last day = false
is_out_of_order Penalty first last day = false
is_out_of_order Waive first last day = false
is_out_of_order WriteOff first last day = false
is_out_of_order Refund first last day = false

-- instalments are numbered from 1 to n
abbrev pub is_instalment_number : ℕ → ℕ → Bool
is_instalment_number n instalment = nat_le 1 instalment && nat_le instalment n

-- a penalty that stands on an instalment
abbrev pub is_penalty_on : ℕ → Entry → Bool
is_penalty_on instalment e = not e.reversed && (is_penalty e.kind && (e.instalment == instalment))

-- a penalty stands on the instalment
abbrev pub has_penalty : List Entry → ℕ → Bool
has_penalty entries instalment = list_any (is_penalty_on instalment) entries

-- an instalment does not allow a penalty: there is no overdue charge, it is not yet overdue, nothing of it is
-- outstanding, or a penalty stands on it
abbrev pub forbids_penalty : Bool → Instalment → List Entry → ℕ → ℕ → Bool
forbids_penalty charged row entries instalment business_day =
    not charged || (nat_le business_day row.due || (not (is_open row) || has_penalty entries instalment))

-- the instalment does not allow it: it is not there, or does not allow a penalty; for a waiver also nothing is
-- outstanding in the cell
abbrev pub is_forbidden : Kind → Bool → List Instalment → List Entry → Entry → ℕ → Bool
is_forbidden Fee charged rows entries e business_day = not (is_instalment_number (length rows) e.instalment)
is_forbidden Penalty charged rows entries e business_day =
    not (is_instalment_number (length rows) e.instalment)
    || forbids_penalty charged (row_at rows e.instalment) entries e.instalment business_day
is_forbidden Waive charged rows entries e business_day =
    not (is_instalment_number (length rows) e.instalment)
    || (outstanding rows (record { instalment = e.instalment; portion = e.portion }) == 0)
is_forbidden Repay charged rows entries e business_day = false
is_forbidden WriteOff charged rows entries e business_day = false
is_forbidden Refund charged rows entries e business_day = false

-- a fee or penalty that came to nothing, or to more than the greatest amount
abbrev pub is_out_of_limits : Kind → ℕ → Bool
is_out_of_limits Fee amount = (amount == 0) || nat_lt (10 ^ 12) amount
is_out_of_limits Penalty amount = (amount == 0) || nat_lt (10 ^ 12) amount
is_out_of_limits Repay amount = false
is_out_of_limits Waive amount = false
is_out_of_limits WriteOff amount = false
is_out_of_limits Refund amount = false

-- why an entry is refused, the first reason that holds
abbrev pub refusal_of : DisbursedLoan → Entry → ℕ → Option Fault
refusal_of loan e business_day =
    if is_sealed loan.entries then Some F11
    else (if not (admits e.kind (status_of_loan loan)) then Some F9
    else (if is_out_of_order e.kind loan.day business_day e.day then Some F10
    else (if is_forbidden e.kind (is_some loan.terms.overdue) (state_of_loan loan).rows loan.entries e business_day
    then Some F14
    else (if is_out_of_limits e.kind e.amount then Some F8
    else (if nat_le 9999 (length loan.entries) then Some F18
    else None)))))

-- a reversal of entry seq: it is not there, it is reversed, or another entry seals the loan
abbrev pub reversal_refused : List Entry → ℕ → Option Fault
reversal_refused entries seq =
    if not (is_instalment_number (length entries) seq) then Some F12
    else (if (entry_at entries (seq - 1)).reversed then Some F13
    else (if is_sealed entries && not (is_seal (entry_at entries (seq - 1)).kind) then Some F11
    else None))

-- what is asked of an entry that is offered: it stands, its columns are its kind's, and it is dated the business day
-- unless it repays
abbrev pub HasForm : Kind → ℕ → Entry → Type 0
HasForm Repay business_day e = (1 ≤ e.amount) × (e.amount ≤ 10 ^ 12) × (e.instalment ≡ 0) × (e.portion ≡ Principal)
HasForm Fee business_day e = (e.day ≡ business_day) × (e.portion ≡ portion.Fee) × (e.receipt ≡ None)
HasForm Penalty business_day e = (e.day ≡ business_day) × (e.portion ≡ portion.Penalty) × (e.receipt ≡ None)
HasForm Waive business_day e = (e.day ≡ business_day) × (e.amount ≡ 0) × (e.portion ≢ Principal) × (e.receipt ≡ None)
HasForm WriteOff business_day e = (e.day ≡ business_day) × (e.amount ≡ 0) × (e.instalment ≡ 0) × (e.portion ≡ Principal)
    × (e.receipt ≡ None)
HasForm Refund business_day e = (e.day ≡ business_day) × (e.amount ≡ 0) × (e.instalment ≡ 0) × (e.portion ≡ Principal)
    × (e.receipt ≡ None)

-- what is asked of an entry that is handed in: it is the next and stands, no entry is dated after the business day,
-- and it has the form of its kind
pub record IsOffered (loan : DisbursedLoan) (e : Entry) (business_day : ℕ) : Type 0 where
  pub next : e.seq ≡ length loan.entries + 1
  pub stands : e.reversed ≡ false
  pub disbursed : loan.day ≤ business_day
  pub latest : (i : ℕ) → i < length loan.entries → (entry_at loan.entries i).day ≤ business_day
  pub form : HasForm e.kind business_day e

-- what no refusal says of an entry, whatever is kept of the account
pub record IsEntryAdmitted (loan : DisbursedLoan) (e : Entry) (business_day : ℕ) : Type 0 where
  pub unsealed : is_sealed loan.entries ≡ false
  pub in_order : is_out_of_order e.kind loan.day business_day e.day ≡ false
  pub there : HasInstalment e.kind e loan.periods
  pub within : is_out_of_limits e.kind e.amount ≡ false
  pub few : length loan.entries < 9999

-- what an entry is refused with, and F20 when out of memory
abbrev pub IsEntryFault : Fault → Type 0
IsEntryFault F8 = Unit {0}
IsEntryFault F9 = Unit {0}
IsEntryFault F10 = Unit {0}
IsEntryFault F11 = Unit {0}
IsEntryFault F14 = Unit {0}
IsEntryFault F18 = Unit {0}
IsEntryFault F20 = Unit {0}
IsEntryFault fault = ⊥
