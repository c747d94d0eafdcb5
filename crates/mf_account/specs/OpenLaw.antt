-- What a loan holds while something of it is outstanding.
use Rattle.std.specs.Prelude.{◌≡◌, true}
use Rattle.std.specs.List.{list_any}
use Rattle.mf_alloc.specs.Sums.{is_open}
use Rattle.mf_account.specs.Loan.{DisbursedLoan, IsSoundDisbursed, state_of_loan}

-- while something is outstanding, nothing is overpaid and nothing refunded
abbrev pub OpenLoansHoldNoMoney : Type 0
OpenLoansHoldNoMoney =
    (loan : DisbursedLoan) → IsSoundDisbursed loan → list_any is_open (state_of_loan loan).rows ≡ true
    → ((state_of_loan loan).overpaid ≡ 0) × ((state_of_loan loan).refunded ≡ 0)
