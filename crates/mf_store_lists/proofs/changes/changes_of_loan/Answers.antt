use Rattle.std.proofs.Common.{None, Some, ap, refl, sym, ◌∙◌}
use Rattle.std.specs.Prelude.{option_map}
use Rattle.mf_lists.specs.Changes.{changes_of_loan}
use Rattle.mf_store_lists.specs.declared.changes.Asked.{Asked}
use Rattle.mf_store_lists.proofs.ChangeLemmas.{lines_kept, loan_is}
use Rattle.mf_store_lists.proofs.changes.changes_of_loan.Goals as goal

pub returns-clause-value : goal.returns-clause-value
returns-clause-value g c clean i s =
    let begun = sym c.journal_begins.ensures ∙ c.in-Some.is in
    let w = lines_kept _ _ _ begun s.journal in
    let asked : Asked = record {
      office = c.args.loan.office;
      loan = Some c.args.loan.number;
      after = 0;
      most = None;
    } in
    ap Some ((c.in_ok-lines.ensures {u = tt}).value clean i w.0 s begun w.1
    ∙ loan_is asked w.0 c.args.loan.number refl refl)
    ∙ ap (option_map (changes_of_loan c.args.loan.office c.args.loan.number)) (sym w.1)
