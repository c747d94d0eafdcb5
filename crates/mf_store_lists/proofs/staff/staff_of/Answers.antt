use Rattle.std.proofs.Common.{◌∙◌, sym}
use Rattle.std.specs.List.{enumerate_from}
use Rattle.std.proofs.lemmas.Result.{IfOk-weaker}
use Rattle.mf_lists.specs.Lists.{staff_line}
use Rattle.mf_model.specs.Store.{rows_at}
use Rattle.mf_store_lists.proofs.NumberedLemmas.{staff_rows, all_chosen}
use Rattle.mf_store_lists.proofs.staff.staff_of.Goals as goal

pub returns-clause-value : goal.returns-clause-value
returns-clause-value g c clean i s =
    IfOk-weaker c.lines_of.result _ _ (λ list h. h c.args.office (enumerate_from 1 (rows_at c.args.office i).staff)
    (c.deref.ensures.value ∙ c.in_ok-rows.ensures.rows clean i s
    ∙ staff_rows c.args.office c.get.result i c.get.ensures.value s.sound)
    ∙ sym (all_chosen staff_line 1 (rows_at c.args.office i).staff)) c.lines_of.ensures.lines
