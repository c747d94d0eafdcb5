use Rattle.std.proofs.Common.{◌∙◌, ap, subst, sym}
use Rattle.std.proofs.lemmas.List.{take_all}
use Rattle.mf_store_audit.specs.Sums.{Fit, sums_of_all, IsBalanced}
use Rattle.mf_store_audit.proofs.BalancedLemmas.{total_balanced}
use Rattle.mf_store_audit.proofs.FitLemmas.{total_more, no_room}
use Rattle.mf_store_audit.proofs.totals.total.Goals as goal

pub loop-office-preserved : goal.loop-office-preserved
loop-office-preserved c =
    let l = c.loop-office in
    let told = c.in_ok-all.ensures {u = tt} in
    record {
      all = total_more c.args.offices.now l.office-index _ l.all c.loop-office-test.true l.invariant.all
          c.in_ok-all.all told.1;
      room = subst Fit (sym told.1) told.0;
    }

pub returns-in_err-all-clause-value : goal.returns-in_err-all-clause-value
returns-in_err-all-clause-value c =
    let l = c.loop-office in
    rw c.from_residual.ensures (no_room c.args.offices.now l.office-index _ l.all c.loop-office-test.true
    l.invariant.all c.in_err-all.ensures)

pub returns-clause-value : goal.returns-clause-value
returns-clause-value c =
    let is = c.loop-office.invariant.all ∙ ap sums_of_all (take_all c.loop-office.office-index c.args.offices.now
    c.loop-office-test.false) in
    (subst Fit is c.loop-office.invariant.room, is)

pub returns-clause-balanced : goal.returns-clause-balanced
returns-clause-balanced c each =
    subst IsBalanced (sym (c.loop-office.invariant.all ∙ ap sums_of_all (take_all c.loop-office.office-index
    c.args.offices.now c.loop-office-test.false))) (total_balanced c.args.offices.now each)
