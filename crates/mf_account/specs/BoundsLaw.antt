-- What a change of a replay's account leads to comes to no more than is kept.
use Rattle.std.specs.Prelude.{ℕ, ◌≤◌, List, ◌++◌, take}
use Rattle.mf_account.specs.declared.settled.SettledPart.{SettledPart}
use Rattle.mf_account.specs.Effect.{State}
use Rattle.mf_account.specs.Loan.{DisbursedLoan, IsSoundDisbursed}
use Rattle.mf_account.specs.Change.{KeptAccount, IsReplayed}
use Rattle.mf_account.specs.Rewind.{IsRedone}
use Rattle.mf_account.specs.Safe.{most_kept, IsBounded}
use Rattle.mf_account.specs.Told.{settled_amount}

-- the book of a change with which the loan is sound, and the parts that then stand, where the account is a replay's
abbrev pub ChangesStayWithinBounds : Type 0
ChangesStayWithinBounds =
    (a : KeptAccount) (new : DisbursedLoan) (book : State) (kept : ℕ) (parts : List SettledPart) → IsReplayed a
    → IsSoundDisbursed new
    → IsRedone a.loan new book kept parts
    → IsBounded new.periods most_kept book × (settled_amount (take kept a.settled ++ parts) ≤ most_kept)
