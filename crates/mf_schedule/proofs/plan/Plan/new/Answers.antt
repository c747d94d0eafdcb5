use Rattle.std.proofs.Common.{◌≡◌, ℕ, ◌*◌, ap, arith}
use Rattle.mf_base.specs.Rounding.{half_even}
use Rattle.mf_schedule.specs.Plan.{flat_interest}
use Rattle.mf_schedule.proofs.LoanLemmas.{flat_interest-le}
use Rattle.mf_schedule.proofs.plan.Plan.new.Goals as goal

pub overflow_cast-result : goal.overflow_cast-result
overflow_cast-result c =
    let same : half_even (c.args.principal * c.args.terms.now.rate * c.days-days.result * c.args.n) 3600000
    ≡ flat_interest c.args.terms.now c.args.principal c.args.n = ap (λ (x : ℕ).
    half_even (c.args.principal * c.args.terms.now.rate * x * c.args.n) 3600000) c.days-days.ensures in
    omega (
      arith,
      same,
      c.half_even.ensures.value,
      flat_interest-le c.args.terms.now c.args.principal c.args.n
          c.requires,
    )
