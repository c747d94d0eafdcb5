use Rattle.std.proofs.Common.{◌≡◌, ℕ, sym, subst, ◌∙◌, true≢false, List}
use Rattle.mf_account.specs.declared.settled.SettledPart.{SettledPart}
use Rattle.mf_account.specs.Loan.{settled_of_loan}
use Rattle.mf_account.specs.Safe.{ArePlaced}
use Rattle.mf_account.specs.Told.{AreNumberedTo}
use Rattle.mf_account.proofs.OrderedLemmas.{numbered-kept}
use Rattle.mf_account.proofs.ToldLemmas.{safe-sound}
use Rattle.mf_account.proofs.replay.in_order.Goals as goal

pub returns-then-not-are_numbered_to-clause-some : goal.returns-then-not-are_numbered_to-clause-some
returns-then-not-are_numbered_to-clause-some c loan sound count periods is parts none =
    true≢false (sym (c.are_numbered_to.ensures.1 (subst (λ (n : ℕ). AreNumberedTo n c.args.settled.now) count
    (numbered-kept loan c.args.settled.now sound parts))) ∙ c.if-not-are_numbered_to.true)

pub returns-then-not-are_placed-clause-some : goal.returns-then-not-are_placed-clause-some
returns-then-not-are_placed-clause-some c loan sound count periods is parts none =
    let same : c.deref.result.now ≡ settled_of_loan loan =
    c.deref.ensures.value ∙ c.in_ok-parts.ensures.loan loan sound count is parts in
    let placed : ArePlaced c.args.instalments c.args.entries (settled_of_loan loan) =
    subst (λ (n : ℕ). ArePlaced n c.args.entries (settled_of_loan loan)) periods
    (subst (λ (n : ℕ). ArePlaced loan.periods n (settled_of_loan loan)) count (safe-sound loan sound).placed) in
    true≢false (sym (c.are_placed.ensures.1
    (subst (λ (l : List SettledPart). ArePlaced c.args.instalments c.args.entries l)
    (sym same) placed)) ∙ c.if-not-are_placed.true)
