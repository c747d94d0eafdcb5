-- A loan's sums over all its instalments, by portion.
use Rattle.std.specs.Prelude.{ℕ, ◌<◌, ◌^◌, List, [], ◌∷◌, sum_by}
use Rattle.mf_alloc.specs.Sums.{Instalment, open_at}
use Rattle.mf_account.specs.declared.balances.Balances.{Balances}
use Rattle.mf_account.specs.declared.balances.Column.{Column}
use Rattle.mf_account.specs.declared.balances.Column.TheVariants.{Owed, Paid, Waived, WrittenOff}
use Rattle.mf_account.specs.declared.entry.Entry.{Entry}
use Rattle.mf_account.specs.Kinds.{money_in}
use Rattle.mf_account.specs.Effect.{State}
use Rattle.mf_account.specs.Account.{sum_at}
use Rattle.mf_account.specs.Standing.{standing_entries}
use Rattle.mf_account.specs.Loan.{DisbursedLoan, state_of_loan, fee_of_loan}

-- one of a row's sums, by portion
abbrev pub column_of : Column → Instalment → List ℕ
column_of Owed row = row.owed
column_of Paid row = row.paid
column_of Waived row = row.waived
column_of WrittenOff row = row.written_off

-- the four portions of a sum
abbrev pub portion_sums : (Instalment → List ℕ) → List Instalment → List ℕ
portion_sums of rows = sum_at of 0 rows ∷ sum_at of 1 rows ∷ sum_at of 2 rows ∷ sum_at of 3 rows ∷ []

-- what is outstanding of a portion in all
abbrev pub open_in : ℕ → List Instalment → ℕ
open_in p rows = sum_by (λ (row : Instalment). open_at row p) rows

-- a loan's sums, read off its state and the fee at its disbursement
abbrev pub balances_by : ℕ → State → Balances
balances_by fee state = record {
  disbursement_fee = fee;
  owed = portion_sums (column_of Owed) state.rows;
  paid = portion_sums (column_of Paid) state.rows;
  waived = portion_sums (column_of Waived) state.rows;
  written_off = portion_sums (column_of WrittenOff) state.rows;
  outstanding = open_in 0 state.rows ∷ open_in 1 state.rows ∷ open_in 2 state.rows ∷ open_in 3 state.rows ∷ [];
  overpaid = state.overpaid;
  refunded = state.refunded;
}

-- a loan's sums, by the replay of its entries
abbrev pub balances_of : DisbursedLoan → Balances
balances_of loan = balances_by (fee_of_loan loan) (state_of_loan loan)

-- what the standing repayments come to
abbrev pub sum_repaid : List Entry → ℕ
sum_repaid entries = sum_by (λ (e : Entry). money_in e.kind e.amount) (standing_entries entries)

-- each sum fits 64 bits
pub record HasRoomAt (p : ℕ) (rows : List Instalment) : Type 0 where
  pub owed : sum_at (λ row. row.owed) p rows < 2 ^ 64
  pub paid : sum_at (λ row. row.paid) p rows < 2 ^ 64
  pub waived : sum_at (λ row. row.waived) p rows < 2 ^ 64
  pub written_off : sum_at (λ row. row.written_off) p rows < 2 ^ 64
  pub outstanding : open_in p rows < 2 ^ 64

-- the sums of rows fit in 64 bits, in each portion
abbrev pub HasRoom : List Instalment → Type 0
HasRoom rows = (p : ℕ) → p < 4 → HasRoomAt p rows
