-- Where the money of a loan is.
use Rattle.std.specs.Prelude.{◌≡◌, ℕ, ◌+◌, ◌<◌, sum, slice_index}
use Rattle.mf_account.specs.declared.balances.Balances.{Balances}
use Rattle.mf_account.specs.Balance.{balances_of, sum_repaid}
use Rattle.mf_account.specs.Loan.{DisbursedLoan}

-- what was owed of a portion is paid, waived, written off or outstanding
abbrev pub IsPortionSettled : Balances → ℕ → Type 0
IsPortionSettled b portion = slice_index b.owed portion
    ≡ slice_index b.paid portion + slice_index b.waived portion + slice_index b.written_off portion
    + slice_index b.outstanding portion

-- every cent that was lent, owed or repaid is somewhere
pub record IsAccountedFor (loan : DisbursedLoan) : Type 0 where
  pub lent : loan.principal ≡ slice_index (balances_of loan).paid 3 + slice_index (balances_of loan).written_off 3
      + slice_index (balances_of loan).outstanding 3
  pub owed : (portion : ℕ) → portion < 4 → IsPortionSettled (balances_of loan) portion
  pub repaid : sum_repaid loan.entries
      ≡ sum (balances_of loan).paid + (balances_of loan).overpaid + (balances_of loan).refunded
