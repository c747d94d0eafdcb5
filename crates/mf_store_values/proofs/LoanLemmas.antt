-- What the row of a loan is read as.
use Rattle.std.proofs.Common.{◌≡◌, ℕ, refl, ap, arith}
use Rattle.mf_base.specs.DayText.{day_text}
use Rattle.mf_model.specs.declared.loan.Stage.{Stage}
use Rattle.mf_model.specs.declared.loan.Stage.TheVariants.{Submitted, Approved, Disbursed, Withdrawn, Rejected}
use Rattle.mf_model.specs.Stages.{stage_number}
use Rattle.mf_store_values.specs.Flat.{approval_text, disbursal_text}

-- a number and the texts of two days tell the stage
pub stage_is : ((one other : ℕ) → day_text one ≡ day_text other → one ≡ other) → (s t : Stage) → stage_number s
    ≡ stage_number t → approval_text s ≡ approval_text t → disbursal_text s ≡ disbursal_text t → s ≡ t
stage_is apart Submitted Submitted e h j = refl
stage_is apart (Approved a) (Approved b) e h j = ap Approved (apart a b (cc))
stage_is apart (Disbursed a c) (Disbursed b d) e h j =
    let approved : a ≡ b = apart a b (cc) in
    let disbursed : c ≡ d = apart c d (cc) in
    λ k. Disbursed (approved k) (disbursed k)
stage_is apart Withdrawn Withdrawn e h j = refl
stage_is apart Rejected Rejected e h j = refl
stage_is apart s t e h j = absurd (omega arith)
