use Rattle.std.proofs.Common.{subst, arith}
use Rattle.mf_lists.specs.declared.lines.ClientLine.{ClientLine}
use Rattle.mf_store_lists.specs.Counted.{IsBetween}
use Rattle.mf_store_lists.proofs.BoundsLemmas.{all_more}
use Rattle.mf_store_lists.proofs.clients.bounds_of.Goals as goal

pub loop-line-preserved : goal.loop-line-preserved
loop-line-preserved c =
    let now = c.widened-bounds.ensures in
    all_more (λ (line : ClientLine). IsBetween c.loop-line.bounds line.number)
    (λ (line : ClientLine). IsBetween c.widened-bounds.result line.number) _ _ _
    (λ line was. (omega (arith, now.low, was.0), omega (arith, now.high, was.1)))
    c.loop-line-test.true c.line-item.is c.loop-line.invariant
    (subst (IsBetween c.widened-bounds.result) c.get.ensures.value now.between)
