-- How a loan comes from one stage to the next, by steps: who may send each, and what each does.
use Rattle.std.specs.Prelude.{ℕ, ◌≤◌, cond, ◌&&◌, nat_le, Option, Some, None, Result, Ok, Err}
use Rattle.mf_base.specs.DayText.{last_entered_day}
use Rattle.mf_base.specs.declared.fault.Fault.{Fault}
use Rattle.mf_base.specs.declared.fault.Fault.TheVariants.{F9, F10}
use Rattle.mf_model.specs.declared.loan.Stage.{Stage}
use Rattle.mf_model.specs.declared.loan.Stage.TheVariants.{Submitted, Approved, Disbursed, Withdrawn, Rejected}
use Rattle.mf_model.specs.declared.request.LoanStep.{LoanStep}
use Rattle.mf_model.specs.declared.request.LoanStep.TheVariants.{Plain, Disburse}
use Rattle.mf_model.specs.declared.request.PlainStep.TheVariants.{Approve, Reject, Withdraw, UndoApproval}
use Rattle.mf_model.specs.Needs.{Need, An_officer, A_manager}

-- the number that a stage has
abbrev pub stage_number : Stage → ℕ
stage_number Submitted = 100
stage_number (Approved day) = 200
stage_number (Disbursed approved day) = 300
stage_number Withdrawn = 400
stage_number Rejected = 500

-- the day of disbursement
abbrev pub disbursed_on : Stage → Option ℕ
disbursed_on (Disbursed approved day) = Some day
disbursed_on _ = None

-- disbursed on a day from that of approval to the business day, both included; else F10
abbrev pub stage_of_disbursal : ℕ → ℕ → ℕ → Result Stage Fault
stage_of_disbursal approved day today = cond (nat_le approved day && nat_le day today) (Ok (Disbursed approved day))
    (Err F10)

-- The stage after a step on a business day. An approval keeps its day, and undoing it forgets the day. F9 where the
-- stage doesn't allow the step.
abbrev pub next_stage : LoanStep → ℕ → Stage → Result Stage Fault
next_stage (Plain Approve) today Submitted = Ok (Approved today)
next_stage (Plain Reject) today Submitted = Ok Rejected
next_stage (Plain Withdraw) today Submitted = Ok Withdrawn
next_stage (Plain UndoApproval) today (Approved approved) = Ok Submitted
next_stage (Disburse day) today (Approved approved) = stage_of_disbursal approved day today
next_stage step today stage = Err F9

-- who may send a step
abbrev pub step_need : LoanStep → Need
step_need (Plain Approve) = A_manager
step_need (Plain Reject) = A_manager
step_need (Plain Withdraw) = An_officer
step_need (Plain UndoApproval) = A_manager
step_need (Disburse day) = A_manager

-- the day that a step names, if it names one, lies in its range
abbrev pub IsStepInRange : LoanStep → Type 0
IsStepInRange (Plain step) = Unit {0}
IsStepInRange (Disburse day) = day ≤ last_entered_day
