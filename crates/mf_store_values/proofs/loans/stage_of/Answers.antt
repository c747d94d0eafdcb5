use Rattle.std.proofs.Common.{◌∙◌, sym, rules}
use Rattle.mf_base.proofs.DayTextLemmas.{day_text-injective}
use Rattle.mf_model.specs.declared.loan.Stage.TheVariants.{Approved, Disbursed}
use Rattle.mf_store_values.specs.Decoded.{IsStageTold}
use Rattle.mf_store_values.proofs.LoanLemmas.{stage_is}
use Rattle.mf_store_values.proofs.loans.stage_of.Goals as goal

pub returns-in_ok-entered_day-in-200-Some-None-clause-only : goal.returns-in_ok-entered_day-in-200-Some-None-clause-only
returns-in_ok-entered_day-in-200-Some-None-clause-only c s told =
    let stage = Approved c.in_ok-entered_day-in-200-Some-None.field-0 in
    let own : IsStageTold stage c.args.row.now = search rules in
    stage_is day_text-injective stage s (own.0 ∙ sym told.0) (own.1 ∙ sym told.1) (own.2 ∙ sym told.2)

pub returns-in_ok-entered_day-in-300-Some-Some-2-clause-only :
    goal.returns-in_ok-entered_day-in-300-Some-Some-2-clause-only
returns-in_ok-entered_day-in-300-Some-Some-2-clause-only c s told =
    let stage = Disbursed c.in_ok-entered_day-in-300-Some-Some.field-0 c.in_ok-entered_day-in-300-Some-Some-2.field-0 in
    let own : IsStageTold stage c.args.row.now = search rules in
    stage_is day_text-injective stage s (own.0 ∙ sym told.0) (own.1 ∙ sym told.1) (own.2 ∙ sym told.2)
