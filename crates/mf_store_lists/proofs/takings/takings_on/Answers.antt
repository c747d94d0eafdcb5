use Rattle.std.proofs.Common.{Some, ap, sym, ◌∙◌}
use Rattle.std.specs.Prelude.{option_map}
use Rattle.mf_lists.specs.Takings.{takings_on}
use Rattle.mf_model.specs.Store.{rows_at}
use Rattle.mf_store_lists.proofs.ChangeLemmas.{lines_kept}
use Rattle.mf_store_lists.proofs.takings.takings_on.Goals as goal

pub returns-clause-value : goal.returns-clause-value
returns-clause-value g c clean i s =
    let begun = sym c.journal_begins.ensures ∙ c.in-Some.is in
    let w = lines_kept _ _ _ begun s.journal in
    ap Some ((c.in_ok-takings.ensures {u = tt}).value clean i w.0 s begun w.1)
    ∙ ap (option_map (takings_on c.args.office c.args.day i.catalogue (rows_at c.args.office i))) (sym w.1)
