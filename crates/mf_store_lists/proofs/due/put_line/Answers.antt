use Rattle.std.proofs.Common.{◌<◌, ◌++◌, subst, sym, ap, ◌∙◌}
use Rattle.mf_office.specs.declared.account.Account.{Account}
use Rattle.mf_lists.specs.Lists.{due_line, is_due}
use Rattle.mf_model.specs.Store.{ledger_at, rows_at}
use Rattle.mf_store_lists.specs.Told.{told_if}
use Rattle.mf_store_lists.proofs.ToldLemmas.{later_is}
use Rattle.mf_store_lists.proofs.due.put_line.Goals as goal

pub returns-clause-added : goal.returns-clause-added
returns-clause-added g c clean i s office l are at =
    let found = c.in_ok-account.ensures.loan office l.0 l.1.loan are in
    let number = c.get.ensures.value ∙ (λ t. (found.0 t).number) in
    let there = ap (λ (a : Account). ledger_at a i) found.0 ∙ at in
    let day = c.args.day in
    let old = c.args.lines.now.items in
    let due = is_due day i.catalogue l.1 in
    c.in_ok-put_loan.ensures.added clean i s l.1 there (sym found.1)
    ∙ (λ t. old ++ told_if due (due_line day i.catalogue (rows_at (found.0 t).office i) ((found.0 t).number, l.1)))
    ∙ ap (λ b. old ++ told_if b (due_line day i.catalogue (rows_at office i) l))
    (sym (later_is c.args.after l.0 due (subst (λ n. c.args.after < n) number c.if-get-after.false)))
