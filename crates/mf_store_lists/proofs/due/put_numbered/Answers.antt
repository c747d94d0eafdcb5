use Rattle.std.proofs.Common.{◌++◌, sym, ap, ◌∙◌}
use Rattle.std.specs.Prelude.{option_map}
use Rattle.mf_lists.specs.Lists.{due_line, is_due}
use Rattle.mf_model.specs.Institution.{Ledger}
use Rattle.mf_model.specs.Store.{ledger_at, rows_at}
use Rattle.mf_store.proofs.CatalogueLemmas.{some_is}
use Rattle.mf_store_lists.specs.Told.{told_if}
use Rattle.mf_store_lists.proofs.due.put_numbered.Goals as goal

pub returns-clause-added : goal.returns-clause-added
returns-clause-added g c clean i s l at =
    let office = c.args.office in
    let day = c.args.day in
    let old = c.args.lines.now.items in
    let number = c.in_ok-number.ensures.number in
    let mid = c.in_ok-put_loan.ensures.asks.kept.premise clean in
    let read = c.in_ok-found.ensures in
    let there = ap (λ n. ledger_at (record { office = office; number = n }) i) number ∙ at in
    let loan = some_is (sym c.in_ok-loan.ensures.value ∙ read.value mid i s
    ∙ ap (option_map (λ (k : Ledger). k.loan)) there) in
    c.in_ok-put_loan.ensures.added clean i (read.asks.kept.same mid i s) l there loan
    ∙ (λ t. old ++ told_if (is_due day i.catalogue l) (due_line day i.catalogue (rows_at office i) (number t, l)))
