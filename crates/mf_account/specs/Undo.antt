-- Back from the state after entries to the state before, by what they settled and with nothing known of it.
use Rattle.std.specs.Prelude.{ℕ, ◌+◌, ◌-◌, List, [], ◌∷◌, sum_by}
use Rattle.mf_alloc.specs.declared.row.Portion.TheVariants as portion
use Rattle.mf_alloc.specs.Sums.{Instalment}
use Rattle.mf_alloc.specs.Rows.{rows_changed_at, minus_at, place_in_row, unpay_row}
use Rattle.mf_account.specs.declared.entry.Entry.{Entry}
use Rattle.mf_account.specs.declared.entry.Kind.{Kind}
use Rattle.mf_account.specs.declared.entry.Kind.TheVariants.{Repay, Fee, Penalty, Waive, WriteOff, Refund}
use Rattle.mf_account.specs.declared.settled.How.{How}
use Rattle.mf_account.specs.declared.settled.How.TheVariants.{Paid, Waived, WrittenOff}
use Rattle.mf_account.specs.Kinds.{money_in}
use Rattle.mf_account.specs.Effect.{State, Part}

-- a row with a sum of a portion settled no more
abbrev pub unsettle_row : How → ℕ → ℕ → Instalment → Instalment
unsettle_row Paid p amount row = unpay_row p amount row
unsettle_row Waived p amount row = record row { waived = minus_at row.waived p amount }
unsettle_row WrittenOff p amount row = record row { written_off = minus_at row.written_off p amount }

-- a row that owes less of a portion
abbrev pub unowe_row : ℕ → ℕ → Instalment → Instalment
unowe_row p amount row = record row { owed = minus_at row.owed p amount }

-- rows with a part settled no more
abbrev pub unsettle : List Instalment → Part → List Instalment
unsettle rows part =
    rows_changed_at rows part.cell.instalment (unsettle_row part.how (place_in_row part.cell.portion) part.amount)

-- all parts, last to first
abbrev pub without_settled : List Instalment → List Part → List Instalment
without_settled rows [] = rows
without_settled rows (part ∷ parts) = unsettle (without_settled rows parts) part

-- rows without the charge that an entry made
abbrev pub without_charge : Kind → Entry → List Instalment → List Instalment
without_charge Fee entry rows =
    rows_changed_at rows entry.instalment (unowe_row (place_in_row portion.Fee) entry.amount)
without_charge Penalty entry rows =
    rows_changed_at rows entry.instalment (unowe_row (place_in_row portion.Penalty) entry.amount)
without_charge Repay entry rows = rows
without_charge Waive entry rows = rows
without_charge WriteOff entry rows = rows
without_charge Refund entry rows = rows

-- what the parts paid
abbrev pub paid_by : How → ℕ → ℕ
paid_by Paid amount = amount
paid_by Waived amount = 0
paid_by WrittenOff amount = 0

-- the sum of the parts that were paid
abbrev pub paid_in : List Part → ℕ
paid_in parts = sum_by (λ (part : Part). paid_by part.how part.amount) parts

-- the state before an entry, where nothing was refunded then: what it paid comes back, its money and charge go
abbrev pub before_entry : Entry → List Part → State → State
before_entry entry parts now = record {
  rows = without_charge entry.kind entry (without_settled now.rows parts);
  overpaid = now.overpaid + paid_in parts + now.refunded - money_in entry.kind entry.amount;
  refunded = 0;
}
