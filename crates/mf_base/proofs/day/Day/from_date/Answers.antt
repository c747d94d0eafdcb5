use Rattle.std.proofs.Common.{arith}
use Rattle.mf_base.proofs.CivilDateLemmas.{day_of-since}
use Rattle.mf_base.proofs.day.Day.from_date.Goals as goal

pub overflow_sub-result : goal.overflow_sub-result
overflow_sub-result c =
    let is = rw c.to_plain.ensures at c.days_since_min.ensures.value in
    omega (arith, day_of-since c.args.date c.days_since_min.result c.requires is)

pub returns-clause-value : goal.returns-clause-value
returns-clause-value c =
    let is = rw c.to_plain.ensures at c.days_since_min.ensures.value in
    omega (arith, day_of-since c.args.date c.days_since_min.result c.requires is)
