use Rattle.std.proofs.Common.{arith, sym, ◌∙◌}
use Rattle.mf_lists.proofs.RateLemmas.{above-fails, least_daily_rate-is}
use Rattle.mf_lists.proofs.rate.least_daily_rate.Goals as goal

pub loop-low-preserved : goal.loop-low-preserved
loop-low-preserved c =
    record {
      order = omega arith;
      within = c.loop-low.invariant.within;
      borne = c.loop-low.invariant.borne;
      none_below = above-fails c.args.handed c.args.day c.args.rows.now _
          (sym c.bears.ensures ∙ c.if-bears.false);
    }

pub returns-clause-value : goal.returns-clause-value
returns-clause-value c =
    let low = c.loop-low.invariant in
    least_daily_rate-is c.args.handed c.args.day c.args.rows.now c.loop-low.high low.within low.borne
    (λ k borne. omega (arith, low.none_below k borne))
