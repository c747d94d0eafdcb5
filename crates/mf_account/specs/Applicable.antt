-- What the code asks of an entry and a state, so that no sum overflows and each cell is there.
use Rattle.std.specs.Prelude.{ℕ, ◌+◌, ◌<◌, ◌≤◌, ◌^◌, List, [], ◌∷◌, length, slice_index, All}
use Rattle.mf_alloc.specs.declared.row.Portion.TheVariants as portion
use Rattle.mf_alloc.specs.Sums.{Instalment, AreWhole}
use Rattle.mf_alloc.specs.Rows.{IsCell, row_at, outstanding}
use Rattle.mf_account.specs.declared.entry.Entry.{Entry}
use Rattle.mf_account.specs.declared.entry.Kind.{Kind}
use Rattle.mf_account.specs.declared.entry.Kind.TheVariants.{Repay, Fee, Penalty, Waive, WriteOff, Refund}
use Rattle.mf_account.specs.declared.settled.SettledPart.{SettledPart}
use Rattle.mf_account.specs.declared.settled.How.TheVariants.{Paid}
use Rattle.mf_account.specs.Effect.{State, Part, settle, after_entry}
use Rattle.mf_account.specs.Account.{Orders}

-- a fee or penalty has a row with room, and a waiver a row
abbrev pub HasRow : Kind → Entry → List Instalment → Type 0
HasRow Fee entry rows =
    (1 ≤ entry.instalment) × (entry.instalment ≤ length rows) × (slice_index (row_at rows entry.instalment).owed 1
    + entry.amount < 2 ^ 64)
HasRow Penalty entry rows =
    (1 ≤ entry.instalment) × (entry.instalment ≤ length rows) × (slice_index (row_at rows entry.instalment).owed 0
    + entry.amount < 2 ^ 64)
HasRow Waive entry rows = (1 ≤ entry.instalment) × (entry.instalment ≤ length rows)
HasRow Repay entry rows = Unit {0}
HasRow WriteOff entry rows = Unit {0}
HasRow Refund entry rows = Unit {0}

-- a waiver has a row
abbrev pub HasCell : Kind → Entry → ℕ → Type 0
HasCell Waive entry n = (1 ≤ entry.instalment) × (entry.instalment ≤ n)
HasCell Repay entry n = Unit {0}
HasCell Fee entry n = Unit {0}
HasCell Penalty entry n = Unit {0}
HasCell WriteOff entry n = Unit {0}
HasCell Refund entry n = Unit {0}

-- an entry can be applied to a state: its instalment is there, and the sums leave room
pub record IsApplicable (entry : Entry) (before : State) : Type 0 where
  pub row : HasRow entry.kind entry before.rows
  pub money : entry.amount + before.overpaid < 2 ^ 64
  pub refund : before.refunded + before.overpaid < 2 ^ 64
  pub whole : AreWhole before.rows

-- each entry at its state
abbrev pub AreApplicable : Orders → List Entry → State → Type 0
AreApplicable orders [] before = Unit {0}
AreApplicable orders (entry ∷ entries) before =
    IsApplicable entry before × AreApplicable orders entries (after_entry (orders entry) entry before)

-- each part is in a cell, and at most what is outstanding there when its turn comes
abbrev pub IsSettleable : List Instalment → List Part → Type 0
IsSettleable rows [] = Unit {0}
IsSettleable rows (part ∷ parts) =
    IsCell (length rows) part.cell × (part.amount ≤ outstanding rows part.cell) × IsSettleable (settle rows part) parts

-- a fee or penalty has a row
abbrev pub HasCharge : Kind → Entry → ℕ → Type 0
HasCharge Fee entry n = (1 ≤ entry.instalment) × (entry.instalment ≤ n)
HasCharge Penalty entry n = (1 ≤ entry.instalment) × (entry.instalment ≤ n)
HasCharge Repay entry n = Unit {0}
HasCharge Waive entry n = Unit {0}
HasCharge WriteOff entry n = Unit {0}
HasCharge Refund entry n = Unit {0}

-- each part is in a cell of n instalments
abbrev pub AreInRows : ℕ → List SettledPart → Type 0
AreInRows n settled = All (λ (s : SettledPart). IsCell n s.cell) settled

-- a part for what is not there
abbrev pub no_settled : SettledPart
no_settled = record {
  seq = 0;
  place = 0;
  cell = record { instalment = 0; portion = portion.Penalty };
  how = Paid;
  amount = 0;
}

-- the instalment that an entry names is there, where its kind names one
abbrev pub HasInstalment : Kind → Entry → ℕ → Type 0
HasInstalment Fee entry n = (1 ≤ entry.instalment) × (entry.instalment ≤ n)
HasInstalment Penalty entry n = (1 ≤ entry.instalment) × (entry.instalment ≤ n)
HasInstalment Waive entry n = (1 ≤ entry.instalment) × (entry.instalment ≤ n)
HasInstalment Repay entry n = Unit {0}
HasInstalment WriteOff entry n = Unit {0}
HasInstalment Refund entry n = Unit {0}
