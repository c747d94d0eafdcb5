use Rattle.std.proofs.Common.{arith}
use Rattle.mf_schedule.proofs.LoanLemmas.{balance_of-le, days_of-le, flat_interest-le, split-le}
use Rattle.mf_schedule.proofs.plan.Plan.interest.Goals as goal

pub interest-requires : goal.interest-requires
interest-requires c =
    let less = balance_of-le c.args.terms.now c.args.principal c.args.n c.args.i c.requires.limits in
    record {
      balance = omega (arith, less, c.requires.balance);
      rate = c.requires.limits.terms_limits.rate;
      days = omega (arith, c.days.ensures, days_of-le c.args.terms.now c.requires.limits.terms_limits);
    }

pub returns-in-FlatInterest-clause-small : goal.returns-in-FlatInterest-clause-small
returns-in-FlatInterest-clause-small c =
    let plan = rw c.in-FlatInterest.is at c.requires.plan in
    let part = split-le c.in-FlatInterest.total c.args.n c.args.i (omega arith) c.requires.last in
    omega (
      arith,
      plan.1,
      part,
      c.split.ensures.value,
      flat_interest-le c.args.terms.now c.args.principal c.args.n
          c.requires.limits,
    )
