-- What a change of a replay's account leads to comes to no more than is kept.
use Rattle.std.proofs.Common.{◌≡◌, ◌≤◌, ◌∙◌, ◌++◌, List, take, ap, sym, subst}
use Rattle.mf_account.specs.declared.settled.SettledPart.{SettledPart}
use Rattle.mf_account.specs.Loan.{settled_of_loan}
use Rattle.mf_account.specs.BoundsLaw.{ChangesStayWithinBounds}
use Rattle.mf_account.specs.Safe.{most_kept, IsBounded}
use Rattle.mf_account.specs.Told.{settled_amount}
use Rattle.mf_account.proofs.ToldLemmas.{safe-sound}

-- it is what a replay of the loan with the change gives
pub changes-within : ChangesStayWithinBounds
changes-within a new book kept parts replayed sound redone =
    let safe = safe-sound new sound in
    let all : take kept a.settled ++ parts ≡ settled_of_loan new =
    ap (λ (xs : List SettledPart). take kept xs ++ parts) replayed.settled ∙ redone.parts_are in (
      subst (IsBounded new.periods most_kept) (sym redone.book_is) safe.bounded,
      subst (λ (xs : List SettledPart). settled_amount xs ≤ most_kept) (sym all) safe.placed.amount,
    )
