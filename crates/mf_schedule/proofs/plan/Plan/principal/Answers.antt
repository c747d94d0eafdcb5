use Rattle.std.proofs.Common.{◌≡◌, ap, arith}
use Rattle.mf_catalog.specs.declared.terms.Method.{Method}
use Rattle.mf_catalog.specs.declared.terms.Method.TheVariants.{Fixed}
use Rattle.mf_schedule.specs.Plan.{interest_by, interest_of}
use Rattle.mf_schedule.proofs.LoanLemmas.{fixed-interest-le}
use Rattle.mf_schedule.proofs.plan.Plan.principal.Goals as goal

pub overflow_sub-amount : goal.overflow_sub-amount
overflow_sub-amount c =
    let plan = rw c.in-FixedAmount.is at c.requires.plan in
    let fixed : interest_of c.args.terms.now c.args.principal c.args.n c.args.i ≡ interest_by Fixed c.args.terms.now
    c.args.principal c.args.n c.args.i =
    ap (λ (m : Method). interest_by m c.args.terms.now c.args.principal c.args.n c.args.i) plan.0 in
    omega (
      arith,
      plan.1,
      fixed,
      c.requires.interest,
      fixed-interest-le c.args.terms.now c.args.principal c.args.n
          c.args.i c.requires.limits,
    )
