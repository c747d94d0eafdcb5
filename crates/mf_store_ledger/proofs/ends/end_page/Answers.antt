use Rattle.std.proofs.Common.{◌∙◌, ap, map, subst}
use Rattle.std.specs.Prelude.{IfOk}
use Rattle.mf_journal.specs.Chain.{line_of_row}
use Rattle.mf_portions_play.specs.Ends.{EndsLines}
use Rattle.mf_store_ledger.proofs.EndLemmas.{premise_of}
use Rattle.mf_store_ledger.proofs.ends.end_page.Goals as goal

pub returns-in-Ok-clause-ends : goal.returns-in-Ok-clause-ends
returns-in-Ok-clause-ends g c h lines are =
    subst (λ ls. IfOk c.play_lines_before.result (EndsLines g.T.InstitutionStore c.args.until ls c.args.store.now
    c.play_lines_before.new.store))
    (ap (map line_of_row) c.deref.ensures.value ∙ c.in-Ok.ensures.told h lines are) c.play_lines_before.ensures.ends

pub returns-in-Ok-clause-premise : goal.returns-in-Ok-clause-premise
returns-in-Ok-clause-premise g c =
    premise_of g.T.InstitutionStore c.args.until _ c.args.store.now c.play_lines_before.new.store
    c.play_lines_before.result c.play_lines_before.ensures.ends
