use Rattle.mf_account.proofs.ChangeLemmas.{same-step}
use Rattle.mf_account.proofs.change.has_same_parts.Goals as goal

pub loop-i-preserved : goal.loop-i-preserved
loop-i-preserved c =
    record {
      within_before = c.next_own-i-in-loop-i.ensures.within;
      within_after = c.next_own-k-in-loop-i.ensures.within;
      own_before = c.next_own-i-in-loop-i.ensures.own;
      own_after = c.next_own-k-in-loop-i.ensures.own;
      same = same-step c.args.seq c.args.before.now c.args.after.now c.loop-i.i c.loop-i.k c.next_own-i-in-loop-i.result
          c.next_own-k-in-loop-i.result
          c.loop-i-test.true c.if-k-after.true (c.loop-i.invariant.own_before c.loop-i-test.true)
          (c.loop-i.invariant.own_after c.if-k-after.true)
          (c.is_same_at.ensures.0 c.if-not-is_same_at.false) c.next_own-i-in-loop-i.ensures.none
          c.next_own-k-in-loop-i.ensures.none c.loop-i.invariant.same;
    }
