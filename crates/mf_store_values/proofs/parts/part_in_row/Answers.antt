use Rattle.std.proofs.Common.{sym, ◌∙◌}
use Rattle.std.proofs.lemmas.Option.{same_Some}
use Rattle.std.proofs.lemmas.Result.{IfOk-weaker}
use Rattle.mf_store_values.specs.Flat.{share_in}
use Rattle.mf_store_values.specs.Kept.{part_told}
use Rattle.mf_store_values.proofs.parts.part_in_row.Goals as goal

pub returns-clause-part : goal.returns-clause-part
returns-clause-part c =
    IfOk-weaker c.or_give_up.result _ _ (λ part is office loan placed row. same_Some part (part_told placed) (sym is
    ∙ c.part_of.ensures.part office loan placed (sym (c.in_ok-found.ensures.row (share_in office loan placed) row))))
    c.or_give_up.ensures.value
