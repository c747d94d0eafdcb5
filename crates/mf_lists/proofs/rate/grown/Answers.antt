use Rattle.std.proofs.Common.{arith, sym, ◌*◌, ap}
use Rattle.std.proofs.Math.Nat.{mul-le-mul_left}
use Rattle.mf_lists.specs.Rate.{next_day, trillion}
use Rattle.mf_lists.proofs.RateLemmas.{after_days-none, after_days-more, after_days-longer, half_even-le}
use Rattle.mf_lists.proofs.rate.grown.Goals as goal

pub loop-day-init : goal.loop-day-init
loop-day-init c = record { same = sym (after_days-none c.args.rate c.args.balance); small = omega arith }

pub loop-day-preserved : goal.loop-day-preserved
loop-day-preserved c =
    let balance = c.loop-day.balance in
    let rate = c.args.rate in
    let value = c.half_even-balance.ensures.value in
    let product = mul-le-mul_left balance c.requires.rate in
    let interest = half_even-le (balance * rate) trillion in
    let next = ap (next_day rate) c.loop-day.invariant.same in
    record {
      same = omega (arith, value, next, after_days-more rate c.loop-day._day c.args.balance);
      small = omega (arith, value, product, interest);
    }

pub returns-then-balance-enough-clause-below : goal.returns-then-balance-enough-clause-below
returns-then-balance-enough-clause-below c =
    omega (
      arith,
      c.loop-day.invariant.same,
      after_days-longer c.args.rate c.loop-day._day c.args.days c.args.balance (omega arith),
    )
