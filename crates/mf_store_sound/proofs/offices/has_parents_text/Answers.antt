use Rattle.std.proofs.Common.{◌∙◌, sym, ap}
use Rattle.std.specs.Prelude.{option_copied}
use Rattle.std.proofs.lemmas.Result.{IfOk-weaker}
use Rattle.mf_store_sound.specs.Offices.{parent_row}
use Rattle.mf_store_sound.proofs.OfficeRowLemmas.{child_text_is}
use Rattle.mf_store_sound.proofs.offices.has_parents_text.Goals as goal

pub returns-in-Some-Some-clause-text : goal.returns-in-Some-Some-clause-text
returns-in-Some-Some-clause-text c rows are =
    let a = c.in-Some-Some in
    IfOk-weaker c.is_child.result _ _ (λ yes. child_text_is rows c.args.office.now.parent a.field-0-0 a.above.now
    c.args.office.now yes a.is-0 (sym (ap option_copied a.is-1) ∙ are ∙ ap (parent_row rows) a.is-0))
    c.is_child.ensures.child
