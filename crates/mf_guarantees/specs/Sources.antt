-- Where what a loan owes comes from: the fresh schedule, and the fees and penalties that stand.
use Rattle.std.specs.Prelude.{◌≡◌, ℕ, ◌+◌, sum_by, slice_index}
use Rattle.mf_schedule.specs.declared.instalment.FreshInstalment.{FreshInstalment}
use Rattle.mf_schedule.specs.Fresh.{total_interest}
use Rattle.mf_account.specs.declared.entry.Entry.{Entry}
use Rattle.mf_account.specs.declared.entry.Kind.{Kind}
use Rattle.mf_account.specs.declared.entry.Kind.TheVariants.{Repay, Fee, Penalty, Waive, WriteOff, Refund}
use Rattle.mf_account.specs.Balance.{balances_of}
use Rattle.mf_account.specs.Loan.{DisbursedLoan, schedule_of}
use Rattle.mf_account.specs.Standing.{standing_entries}

-- what an entry of a kind charges as a fee
abbrev pub fee_in : Kind → ℕ → ℕ
fee_in Fee amount = amount
fee_in Repay amount = 0
fee_in Penalty amount = 0
fee_in Waive amount = 0
fee_in WriteOff amount = 0
fee_in Refund amount = 0

-- what an entry of a kind charges as a penalty
abbrev pub penalty_in : Kind → ℕ → ℕ
penalty_in Penalty amount = amount
penalty_in Repay amount = 0
penalty_in Fee amount = 0
penalty_in Waive amount = 0
penalty_in WriteOff amount = 0
penalty_in Refund amount = 0

-- every cent owed has a source
pub record HasSources (loan : DisbursedLoan) : Type 0 where
  pub principal : slice_index (balances_of loan).owed 3 ≡ loan.principal
  pub interest : slice_index (balances_of loan).owed 2 ≡ total_interest (schedule_of loan)
  pub fees : slice_index (balances_of loan).owed 1
      ≡ sum_by (λ (i : FreshInstalment). i.fees) (schedule_of loan)
      + sum_by (λ (e : Entry). fee_in e.kind e.amount) (standing_entries loan.entries)
  pub penalties : slice_index (balances_of loan).owed 0
      ≡ sum_by (λ (e : Entry). penalty_in e.kind e.amount) (standing_entries loan.entries)
