-- What a step of a loan comes to.
use Rattle.std.proofs.Common.{◌≡◌, ℕ, ◌≤◌, Bool, true, false, cond, None, Result, Ok, Err, refl, arith}
use Rattle.std.specs.Prelude.{◌&&◌, nat_le}
use Rattle.std.proofs.lemmas.Bool.Decides.{nat_tests}
use Rattle.mf_base.specs.declared.fault.Fault.{Fault}
use Rattle.mf_base.specs.declared.fault.Fault.TheVariants.{F10, F20}
use Rattle.mf_model.specs.declared.loan.Stage.{Stage}
use Rattle.mf_model.specs.declared.loan.Stage.TheVariants.{Submitted, Approved, Disbursed}
use Rattle.mf_model.specs.declared.request.LoanStep.{LoanStep}
use Rattle.mf_model.specs.declared.request.LoanStep.TheVariants.{Plain, Disburse}
use Rattle.mf_model.specs.declared.request.PlainStep.TheVariants.{Approve, Reject, Withdraw, UndoApproval}
use Rattle.mf_model.specs.Stages.{disbursed_on, stage_of_disbursal, next_stage}
use Rattle.mf_model.specs.Sound.{IsStageBy}
use Rattle.mf_model.proofs.Growing.{and_left, and_right}

-- any refusal but F20
abbrev pub IsRuled : Fault → Type 0
IsRuled F20 = ⊥
IsRuled _ = Unit {0}

-- A step is refused otherwise than with F20, or it keeps a loan's days in order and is taken before disbursement.
abbrev pub IsResultFrom : ℕ → Stage → Result Stage Fault → Type 0
IsResultFrom today from (Err fault) = IsRuled fault
IsResultFrom today from (Ok to) = IsStageBy today to × (disbursed_on from ≡ None)

disbursed_keeps : (approved day today : ℕ) → IsResultFrom today (Approved approved)
    (stage_of_disbursal approved day today)
disbursed_keeps approved day today = either (nat_le approved day && nat_le day today) refl
  where
    either : (b : Bool) → (nat_le approved day && nat_le day today) ≡ b → IsResultFrom today (Approved approved)
        (cond b (Ok (Disbursed approved day)) (Err F10))
    either false h = tt
    either true h =
        let first : nat_le approved day ≡ true = and_left (nat_le approved day) (nat_le day today) h in
        let second : nat_le day today ≡ true = and_right (nat_le approved day) (nat_le day today) h in
        let early : approved ≤ day = grind (arith, nat_tests) in
        let late : day ≤ today = grind (arith, nat_tests) in
        ((early, late), refl)

pub step_keeps : (step : LoanStep) (today : ℕ) (from : Stage) → IsResultFrom today from (next_stage step today from)
step_keeps (Plain Approve) today Submitted = (omega arith, refl)
step_keeps (Plain Reject) today Submitted = (tt, refl)
step_keeps (Plain Withdraw) today Submitted = (tt, refl)
step_keeps (Plain UndoApproval) today (Approved approved) = (tt, refl)
step_keeps (Disburse day) today (Approved approved) = disbursed_keeps approved day today
step_keeps _ today _ = tt
