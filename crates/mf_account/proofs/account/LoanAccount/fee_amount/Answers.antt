use Rattle.std.proofs.Common.{◌≡◌, ◌∙◌, ap, arith}
use Rattle.mf_schedule.specs.Fresh.{total_interest}
use Rattle.mf_schedule.proofs.BoundLemmas.{scheduled_interest-le}
use Rattle.mf_account.specs.Loan.{DisbursedLoan, schedule_of}
use Rattle.mf_account.proofs.account.LoanAccount.fee_amount.Goals as goal

pub fee-requires-clause-interest : goal.fee-requires-clause-interest
fee-requires-clause-interest c =
    let loan : DisbursedLoan = c.self.inside.loan in
    let is : total_interest c.deref.result.now ≡ total_interest (schedule_of loan) =
    ap total_interest (c.deref.ensures.value ∙ c.self.invariant.schedule_is) in
    let little = scheduled_interest-le loan.terms loan.principal loan.periods loan.day c.self.invariant.sound.limits in
    omega (arith, is, little)
