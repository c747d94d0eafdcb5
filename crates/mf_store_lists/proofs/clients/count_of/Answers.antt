use Rattle.std.proofs.Common.{sym, ap, ap₂, nat_lt, ◌&&◌, ◌∙◌}
use Rattle.std.specs.List.{list_any}
use Rattle.mf_alloc.specs.Sums.{is_open}
use Rattle.mf_arrears.specs.Ageing.{days_overdue}
use Rattle.mf_lists.specs.Lists.{is_active, rows_in}
use Rattle.mf_model.specs.declared.loan.Loan.{Loan}
use Rattle.mf_store_lists.specs.Counted.{waits}
use Rattle.mf_store_lists.proofs.CountLemmas.{active_is, waiting_is}
use Rattle.mf_store_lists.proofs.clients.count_of.Goals as goal

pub returns-clause-value : goal.returns-clause-value
returns-clause-value g c clean i s l at its day =
    let k = i.catalogue in
    let rows = c.in_ok-rows.ensures.value clean i s l at its in
    let waiting = c.waits.ensures ∙ ap (λ (x : Loan). waits x.stage) (sym its) ∙ waiting_is k l in
    let active = c.is_active-active.ensures ∙ ap (list_any is_open) (c.deref.ensures.value ∙ rows)
    ∙ active_is c.args.account l i s.sound at in
    let overdue = c.is_overdue-overdue.ensures
    ∙ ap₂ (λ a r. a && nat_lt 0 (days_overdue r c.args.today)) active (c.deref-2.ensures.value ∙ rows)
    ∙ ap (λ d. is_active k l && nat_lt 0 (days_overdue (rows_in k l) d)) day in
    λ t. record { waiting = waiting t; active = active t; overdue = overdue t }
