use Rattle.std.proofs.Common.{sym, subst}
use Rattle.mf_model.specs.Sound.{IsStageBy}
use Rattle.mf_store_values.proofs.AnswerLemmas.{no_answer}
use Rattle.mf_store_sound.proofs.loans.is_stage.Goals as goal

pub returns-in-Some : goal.returns-in-Some
returns-in-Some c =
    let told = c.in-Some.ensures.some in (
      λ yes. (c.in-Some.stage, c.is_stage_by.ensures.0 yes, told.0, told.1, told.2),
      λ of. c.is_stage_by.ensures.1 (subst (IsStageBy c.args.today) (sym (c.in-Some.ensures.only of.0
          (of.2, of.3, of.4))) of.1),
    )

pub returns-in-None : goal.returns-in-None
returns-in-None c = no_answer (λ of. absurd (let never = c.in-None.ensures.every c.args.today of.0 c.requires of.1
    (of.2, of.3, of.4) in cc))
