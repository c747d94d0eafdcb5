-- The effect of one entry, on any state.
use Rattle.std.specs.Prelude.{ℕ, ◌+◌, ◌*◌, nat_lt, Bool, List, [], ◌∷◌, ◌++◌, length, map, filter}
use Rattle.std.specs.List.{range_with_len}
use Rattle.mf_alloc.specs.declared.row.Cell.{Cell}
use Rattle.mf_alloc.specs.declared.row.Portion.TheVariants as portion
use Rattle.mf_alloc.specs.Sums.{Instalment}
use Rattle.mf_alloc.specs.Rows.{outstanding, rows_changed_at, plus_at, place_in_row, pay_row, with_paid}
use Rattle.mf_alloc.specs.Payment.{share_at, shares_of, rest_of}
use Rattle.mf_account.specs.declared.entry.Entry.{Entry}
use Rattle.mf_account.specs.declared.entry.Kind.{Kind}
use Rattle.mf_account.specs.declared.entry.Kind.TheVariants.{Repay, Fee, Penalty, Waive, WriteOff, Refund}
use Rattle.mf_account.specs.declared.settled.How.{How}
use Rattle.mf_account.specs.declared.settled.How.TheVariants.{Paid, Waived, WrittenOff}

-- a loan's instalments with their sums, and the money beside them
pub record State : Type 0 where
  pub rows : List Instalment
  pub overpaid : ℕ
  pub refunded : ℕ

-- what an entry settles in a cell
pub record Part : Type 0 where
  pub cell : Cell
  pub how : How
  pub amount : ℕ

-- a sum of a row raised
abbrev pub settle_row : How → ℕ → ℕ → Instalment → Instalment
settle_row Paid p amount row = pay_row p amount row
settle_row Waived p amount row = record row { waived = plus_at row.waived p amount }
settle_row WrittenOff p amount row = record row { written_off = plus_at row.written_off p amount }

-- a row that owes more of a portion
abbrev pub owe_row : ℕ → ℕ → Instalment → Instalment
owe_row p amount row = record row { owed = plus_at row.owed p amount }

-- rows with a part settled
abbrev pub settle : List Instalment → Part → List Instalment
settle rows part =
    rows_changed_at rows part.cell.instalment (settle_row part.how (place_in_row part.cell.portion) part.amount)

-- all parts, first to last
abbrev pub with_settled : List Instalment → List Part → List Instalment
with_settled rows [] = rows
with_settled rows (part ∷ parts) = with_settled (settle rows part) parts

-- a fee or penalty is added to what its cell owes
abbrev pub with_charge : Kind → Entry → List Instalment → List Instalment
with_charge Fee entry rows = rows_changed_at rows entry.instalment (owe_row (place_in_row portion.Fee) entry.amount)
with_charge Penalty entry rows =
    rows_changed_at rows entry.instalment (owe_row (place_in_row portion.Penalty) entry.amount)
with_charge Repay entry rows = rows
with_charge Waive entry rows = rows
with_charge WriteOff entry rows = rows
with_charge Refund entry rows = rows

-- all that is outstanding in a cell, as a part
abbrev pub whole_part : How → List Instalment → Cell → Part
whole_part how rows cell = record { cell = cell; how = how; amount = outstanding rows cell }

-- a part is of more than nothing
abbrev pub is_some_part : Part → Bool
is_some_part part = nat_lt 0 part.amount

-- the parts that are of more than nothing
abbrev pub some_parts : List Part → List Part
some_parts parts = filter is_some_part parts

-- a waiver clears its cell, and a write-off every cell
abbrev pub parts_by : Kind → (ℕ → Cell) → Entry → List Instalment → List Part
parts_by Waive order entry rows =
    some_parts (whole_part Waived rows (record { instalment = entry.instalment; portion = entry.portion }) ∷ [])
parts_by WriteOff order entry rows =
    some_parts (map (λ k. whole_part WrittenOff rows (order k)) (range_with_len 0 (4 * length rows)))
parts_by Repay order entry rows = []
parts_by Fee order entry rows = []
parts_by Penalty order entry rows = []
parts_by Refund order entry rows = []

-- the parts that an entry waives or writes off
abbrev pub parts_cleared : (ℕ → Cell) → Entry → List Instalment → List Part
parts_cleared order entry rows = parts_by entry.kind order entry rows

-- what the entry itself does: a repayment pays and the rest is overpaid, a fee or penalty is owed, a waiver and a
-- write-off clear what is outstanding, and a refund gives back what is overpaid
abbrev pub own_effect : Kind → (ℕ → Cell) → Entry → State → State
own_effect Repay order entry before = record {
  rows = with_paid before.rows (shares_of order before.rows entry.amount);
  overpaid = before.overpaid + rest_of order before.rows entry.amount;
  refunded = before.refunded;
}
own_effect Fee order entry before = record before { rows = with_charge Fee entry before.rows }
own_effect Penalty order entry before = record before { rows = with_charge Penalty entry before.rows }
own_effect Waive order entry before =
    record before { rows = with_settled before.rows (parts_by Waive order entry before.rows) }
own_effect WriteOff order entry before =
    record before { rows = with_settled before.rows (parts_by WriteOff order entry before.rows) }
own_effect Refund order entry before =
    record { rows = before.rows; overpaid = 0; refunded = before.refunded + before.overpaid }

-- the state after an entry's own effect
abbrev pub state_acted : (ℕ → Cell) → Entry → State → State
state_acted order entry before = own_effect entry.kind order entry before

-- what is overpaid is paid, and becomes the rest
abbrev pub with_overpaid_paid : (ℕ → Cell) → State → State
with_overpaid_paid order before = record {
  rows = with_paid before.rows (shares_of order before.rows before.overpaid);
  overpaid = rest_of order before.rows before.overpaid;
  refunded = before.refunded;
}

-- the state after the entry
abbrev pub after_entry : (ℕ → Cell) → Entry → State → State
after_entry order entry before = with_overpaid_paid order (state_acted order entry before)

-- what the entry itself pays into the cell at place k, and what is paid there in all
abbrev pub own_share : Kind → (ℕ → Cell) → Entry → State → ℕ → ℕ
own_share Repay order entry before k = (share_at order before.rows entry.amount k).amount
own_share Fee order entry before k = 0
own_share Penalty order entry before k = 0
own_share Waive order entry before k = 0
own_share WriteOff order entry before k = 0
own_share Refund order entry before k = 0

-- what of the money overpaid after that falls on the cell at a place
abbrev pub later_share : (ℕ → Cell) → Entry → State → ℕ → ℕ
later_share order entry before k =
    let acted = state_acted order entry before in (share_at order acted.rows acted.overpaid k).amount

-- the part that is paid of the cell at a place
abbrev pub paid_at : (ℕ → Cell) → (ℕ → ℕ) → ℕ → Part
paid_at order amounts k = record { cell = order k; how = Paid; amount = amounts k }

-- what is paid, cell by cell in the strategy's order, the shares of one cell added up
abbrev pub parts_paid : (ℕ → Cell) → Entry → State → List Part
parts_paid order entry before =
    some_parts (map (paid_at order (λ k. own_share entry.kind order entry before k + later_share order entry before k))
    (range_with_len 0 (4 * length before.rows)))

-- what the entry settles: what it clears, then what is paid
abbrev pub parts_of : (ℕ → Cell) → Entry → State → List Part
parts_of order entry before = parts_cleared order entry before.rows ++ parts_paid order entry before
