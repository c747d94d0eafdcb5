use Rattle.std.proofs.Common.{◌≡◌, ◌+◌, ℕ, arith, subst, sym}
use Rattle.mf_schedule.specs.Fixed.{balance_after}
use Rattle.mf_schedule.proofs.FixedLemmas.{balance-stays, one_turn_pays, first-from_too_low, least_amount-is}
use Rattle.mf_schedule.proofs.fixed.fixed_amount.Goals as goal

pub loop-high-init : goal.loop-high-init
loop-high-init c =
    let stays = balance-stays c.args.rate c.args.days c.interest-low.result c.args.principal c.args.n (omega arith) in
    record {
      order = omega arith;
      above = omega arith;
      within = omega arith;
      too_low = λ e. omega arith;
      enough = subst (λ (x : ℕ). balance_after c.args.rate c.args.days (c.args.principal + x) c.args.principal c.args.n
          ≡ 0) (sym c.interest-low.ensures.value)
          (one_turn_pays c.args.rate c.args.days c.args.principal c.args.n c.requires.some_principal
          c.requires.periods);
    }

pub returns-clause-least : goal.returns-clause-least
returns-clause-least c = first-from_too_low c.args.rate c.args.days c.args.principal c.args.n c.loop-high.low
    c.loop-high.high (omega arith) c.loop-high.invariant.too_low

pub returns-clause-value : goal.returns-clause-value
returns-clause-value c =
    least_amount-is c.args.rate c.args.days c.args.principal c.args.n c.loop-high.high c.loop-high.invariant.within
    c.loop-high.invariant.enough
    (first-from_too_low c.args.rate c.args.days c.args.principal c.args.n c.loop-high.low c.loop-high.high (omega arith)
    c.loop-high.invariant.too_low)
