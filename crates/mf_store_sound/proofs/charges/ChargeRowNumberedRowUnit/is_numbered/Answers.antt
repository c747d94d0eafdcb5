use Rattle.std.proofs.Common.{◌≡◌, ◌∙◌, sym, arith, subst}
use Rattle.std.proofs.lemmas.Bool.Decides.{nat_tests}
use Rattle.mf_model.specs.Sound.{IsName}
use Rattle.mf_store_values.proofs.AnswerLemmas.{no_answer}
use Rattle.mf_store_sound.proofs.RowLemmas.{charge_is}
use Rattle.mf_store_sound.proofs.charges.ChargeRowNumberedRowUnit.is_numbered.Goals as goal
use Rattle.mf_store_sound.proofs.charges.ChargeRowNumberedRowUnit.is_numbered.Goals.{then-self-number, else-self-number}

pub returns-then-is_name : goal.returns-then-is_name
returns-then-is_name c of =
    let both : (c.args.self.now.number ≡ c.args.number) × IsName c.args.self.now.name = elim c.if-self-number.branch [
      | then-self-number w ↦ (
        grind (arith, nat_tests),
        subst IsName w.as_str.ensures (w.is_name.ensures.0 (sym w.value-is ∙ c.if-is_name.true)),
      )
      | else-self-number w ↦ absurd (grind (arith, nat_tests))
    ] in
    charge_is c.args.number c.args.self.now c.in-Some.columns c.is_value.result both.0 both.1 c.in-Some.ensures.some
    c.in-Some.ensures.every c.is_value.ensures

pub returns-in_default : goal.returns-in_default
returns-in_default c of =
    no_answer (λ are. absurd (c.in_default.not-Some _ (c.charge_columns.ensures.every c.args.number are.value
    are.row_is)))
