use Rattle.std.proofs.Common.{◌≡◌, ◌≤◌, ◌∙◌, ◌++◌, List, take, ap, sym, subst}
use Rattle.mf_account.specs.declared.settled.SettledPart.{SettledPart}
use Rattle.mf_account.specs.Change.{KeptAccount}
use Rattle.mf_account.specs.Safe.{most_kept}
use Rattle.mf_account.specs.Told.{settled_amount}
use Rattle.mf_account.proofs.WithinLemmas.{changes-within}
use Rattle.mf_account.proofs.account.LoanAccount.is_within_bounds.Goals as goal

pub returns-then-is_bounded-clause-book : goal.returns-then-is_bounded-clause-book
returns-then-is_bounded-clause-book c n is within = c.is_bounded.ensures.bounded n is c.if-is_bounded.true

pub returns-then-is_bounded-clause-replayed : goal.returns-then-is_bounded-clause-replayed
returns-then-is_bounded-clause-replayed c replayed new sound redone =
    let a : KeptAccount = c.args.self.now in
    let within = changes-within a new c.args.book.now c.args.kept c.args.parts.now replayed sound redone in
    let own : c.deref.result.now ≡ a.settled =
    c.deref.ensures.value ∙ ap (λ (x : KeptAccount). x.settled) c.self.view_is in
    c.is_amount_within.ensures.1
    (subst (λ (xs : List SettledPart). settled_amount (take c.args.kept xs ++ c.args.parts.now) ≤ most_kept) (sym own)
    within.1)

pub returns-else-is_bounded-clause-replayed : goal.returns-else-is_bounded-clause-replayed
returns-else-is_bounded-clause-replayed c replayed new sound redone =
    let a : KeptAccount = c.args.self.now in
    let within = changes-within a new c.args.book.now c.args.kept c.args.parts.now replayed sound redone in
    c.is_bounded.ensures.exact new.periods within.0
