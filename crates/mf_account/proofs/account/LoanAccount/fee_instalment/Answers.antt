use Rattle.std.proofs.Common.{◌≡◌, ◌∙◌, ap, arith, length, List, ℕ}
use Rattle.mf_schedule.specs.declared.instalment.FreshInstalment.{FreshInstalment}
use Rattle.mf_account.specs.Change.{KeptAccount}
use Rattle.mf_account.specs.Charges.{fee_instalment, instalment_from}
use Rattle.mf_account.specs.Loan.{DisbursedLoan, schedule_of}
use Rattle.mf_account.proofs.SoundLemmas.{length-schedule}
use Rattle.mf_account.proofs.account.LoanAccount.fee_instalment.Goals as goal

pub instalment_due-requires : goal.instalment_due-requires
instalment_due-requires c =
    let loan : DisbursedLoan = c.self.inside.loan in
    let size : length c.deref.result.now ≡ length (schedule_of loan) =
    ap length (c.deref.ensures.value ∙ c.self.invariant.schedule_is) in
    let few = c.self.invariant.sound.limits.most_periods in
    record { few = omega (arith, size, length-schedule loan, few) }

pub returns : goal.returns
returns c =
    let loan : DisbursedLoan = c.self.inside.loan in
    let due : ℕ = c.args.due in
    c.instalment_due.ensures
    ∙ ap (λ (is : List FreshInstalment). instalment_from (length is) due is) (c.deref.ensures.value
    ∙ c.self.invariant.schedule_is)
    ∙ ap (λ n. instalment_from n due (schedule_of loan)) (length-schedule loan)
    ∙ ap (λ (a : KeptAccount). fee_instalment a.loan due) c.self.view_is
