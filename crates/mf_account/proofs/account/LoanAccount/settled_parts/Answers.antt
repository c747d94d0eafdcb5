use Rattle.std.proofs.Common.{◌≤◌, sym, subst, arith, List, length}
use Rattle.mf_account.specs.declared.settled.SettledPart.{SettledPart}
use Rattle.mf_account.specs.Change.{KeptAccount}
use Rattle.mf_account.specs.Safe.{most_kept}
use Rattle.mf_account.specs.Told.{settled_amount, AreNumberedTo}
use Rattle.mf_account.proofs.account.LoanAccount.settled_parts.Goals as goal

pub returns-clause-small : goal.returns-clause-small
returns-clause-small c =
    let small : settled_amount c.as_slice.result.now ≤ most_kept = subst (λ (settled : List SettledPart).
    settled_amount settled ≤ most_kept) (sym c.as_slice.ensures.value) c.self.invariant.safe.placed.amount in
    omega (arith, small)

pub returns-clause-numbers : goal.returns-clause-numbers
returns-clause-numbers c =
    subst (λ (a : KeptAccount). AreNumberedTo (length a.loan.entries) c.as_slice.result.now) c.self.view_is
    (subst (AreNumberedTo (length c.self.inside.loan.entries)) (sym c.as_slice.ensures.value)
    c.self.invariant.safe.placed.numbers)
