use Rattle.std.proofs.Common.{sym, ap, ◌∙◌}
use Rattle.std.specs.List.{list_any}
use Rattle.mf_lists.specs.Lists.{due_line}
use Rattle.mf_model.specs.Store.{rows_at}
use Rattle.mf_store_lists.specs.Due.{is_row_due}
use Rattle.mf_store_lists.proofs.DueLemmas.{due_is}
use Rattle.mf_store_lists.proofs.ToldLemmas.{none_told, one_told}
use Rattle.mf_store_lists.proofs.due.put_loan.Goals as goal

pub returns-then-not-is_due-clause-added : goal.returns-then-not-is_due-clause-added
returns-then-not-is_due-clause-added g c clean i s l at its =
    let loan = c.args.account in
    let rows = c.deref.ensures.value ∙ c.in_ok-rows.ensures.value clean i s l at its in
    let due = c.is_due.ensures ∙ ap (list_any (is_row_due c.args.day)) rows ∙ due_is loan l i c.args.day s.sound at in
    none_told _ (due_line c.args.day i.catalogue (rows_at loan.office i) (loan.number, l)) _
    (sym due ∙ c.if-not-is_due.true)

pub returns-clause-added : goal.returns-clause-added
returns-clause-added g c clean i s l at its =
    let loan = c.args.account in
    let mid = c.in_ok-line.ensures.asks.kept.premise clean in
    let read = c.in_ok-rows.ensures.value mid i s l at its in
    let due = c.is_due.ensures ∙ ap (list_any (is_row_due c.args.day)) (c.deref.ensures.value ∙ read)
    ∙ due_is loan l i c.args.day s.sound at in
    let line = c.in_ok-line.ensures.value clean i (c.in_ok-rows.ensures.asks.kept.same mid i s) l at its
    (c.deref-2.ensures.value ∙ read) in
    one_told _ _ (due_line c.args.day i.catalogue (rows_at loan.office i) (loan.number, l)) _ _
    (sym due ∙ c.if-not-is_due.false) c.in_ok-push.ensures.items line
