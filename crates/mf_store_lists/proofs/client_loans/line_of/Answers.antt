use Rattle.std.proofs.Common.{sym, ap, ◌∙◌}
use Rattle.std.specs.Prelude.{sum_by}
use Rattle.mf_alloc.specs.Sums.{row_outstanding}
use Rattle.mf_arrears.specs.Ageing.{days_overdue}
use Rattle.mf_lists.specs.Lists.{approved_on, rows_in}
use Rattle.mf_model.specs.declared.loan.Loan.{Loan}
use Rattle.mf_model.specs.Stages.{disbursed_on}
use Rattle.mf_store_lists.proofs.client_loans.line_of.Goals as goal

pub returns-clause-value : goal.returns-clause-value
returns-clause-value g c clean i s l at its day =
    let k = i.catalogue in
    let mid = c.in_ok-rows.ensures.asks.kept.premise clean in
    let status = c.in_ok-status.ensures.value mid i s l at its in
    let rows = c.in_ok-rows.ensures.value clean i (c.in_ok-status.ensures.asks.kept.same mid i s) l at its in
    let left = c.in_ok-left.ensures.left ∙ ap (sum_by row_outstanding) (c.deref.ensures.value ∙ rows) in
    let overdue = c.in_ok-overdue.ensures.days
    ∙ ap (λ r. days_overdue r c.args.today) (c.deref-2.ensures.value ∙ rows)
    ∙ ap (days_overdue (rows_in k l)) day in
    let loan = sym its in
    let approved = c.approved_on.ensures ∙ ap (λ (x : Loan). approved_on x.stage) loan in
    let disbursed = c.disbursal_day.ensures ∙ ap (λ (x : Loan). disbursed_on x.stage) loan in
    λ t. record {
      loan = c.args.account.number;
      product = (loan t).product;
      principal = (loan t).principal;
      status = status t;
      approved = approved t;
      disbursed = disbursed t;
      left = left t;
      overdue = overdue t;
    }
