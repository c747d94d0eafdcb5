use Rattle.std.proofs.Common.{◌≡◌, ◌∙◌, ap, arith}
use Rattle.mf_schedule.specs.Fresh.{total_owed}
use Rattle.mf_schedule.proofs.BoundLemmas.{scheduled_owed-le}
use Rattle.mf_account.specs.Loan.{DisbursedLoan, schedule_of}
use Rattle.mf_account.proofs.account.LoanAccount.penalty_amount.Goals as goal

pub penalty-requires-clause-owed : goal.penalty-requires-clause-owed
penalty-requires-clause-owed c =
    let loan : DisbursedLoan = c.self.inside.loan in
    let is : total_owed c.deref.result.now ≡ total_owed (schedule_of loan) =
    ap total_owed (c.deref.ensures.value ∙ c.self.invariant.schedule_is) in
    let little = scheduled_owed-le loan.terms loan.principal loan.periods loan.day c.self.invariant.sound.limits in
    omega (arith, is, little)
