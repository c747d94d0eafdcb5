use Rattle.std.proofs.Common.{◌≡◌, ℕ, ◌-◌, ◌∙◌, refl, sym, ap, arith, zero}
use Rattle.mf_office.specs.Tree.{is_at_or_below, is_within}
use Rattle.mf_store_audit.specs.Suspects.{parent_in}
use Rattle.mf_store_audit.proofs.SuspectLemmas.{within_alone, within_itself, within_next}
use Rattle.mf_store_audit.proofs.suspects.is_at_or_below.Goals as goal

pub loop-init : goal.loop-init
loop-init c = refl

pub returns-then-at-above : goal.returns-then-at-above
unfolding is_at_or_below
returns-then-at-above c =
    sym (c.loop.invariant ∙ within_itself (parent_in c.args.offices.now) c.loop.at c.args.above (5 - c.loop.counter)
    c.if-at-above.true)

pub returns-in-None : goal.returns-in-None
unfolding is_at_or_below
returns-in-None c =
    sym (c.loop.invariant ∙ within_alone (parent_in c.args.offices.now) c.loop.at c.args.above (5 - c.loop.counter)
    c.if-at-above.false (sym c.in-None.ensures))

pub loop-preserved : goal.loop-preserved
loop-preserved c = c.loop.invariant ∙ within_next (parent_in c.args.offices.now) c.loop.at c.args.above c.loop.counter
    c.in-Some.parent c.loop-test.true c.if-at-above.false (sym c.in-Some.ensures)

pub returns : goal.returns
unfolding is_at_or_below is_within
returns c =
    let none : 5 - c.loop.counter ≡ 0 = omega (arith, c.loop-test.false) in
    sym (c.loop.invariant ∙ ap (λ n. is_within n (parent_in c.args.offices.now) c.loop.at c.args.above) none)
