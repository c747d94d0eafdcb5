-- The instalments of a sound loan can be told.
use Rattle.std.proofs.Common.{◌≡◌, ◌≤◌, List, length, ap, subst, sym, arith}
use Rattle.mf_alloc.specs.Sums.{Instalment}
use Rattle.mf_account.specs.Loan.{DisbursedLoan, IsSoundDisbursed, state_of_loan}
use Rattle.mf_account.specs.Told.{AreRowsSmall}
use Rattle.mf_account.proofs.ToldLemmas.{rows-small, safe-sound}

-- no more than any loan's, each with less than 2^64 cents outstanding
pub tellable-sound : (loan : DisbursedLoan) (rows : List Instalment) → IsSoundDisbursed loan
    → rows ≡ (state_of_loan loan).rows
    → (length rows ≤ 360) × AreRowsSmall rows
tellable-sound loan rows sound is =
    let safe = safe-sound loan sound in
    let size = ap length is in (
      omega (arith, size, safe.bounded.size, sound.limits.most_periods),
      subst AreRowsSmall (sym is) (rows-small loan.periods (state_of_loan loan) safe.bounded),
    )
