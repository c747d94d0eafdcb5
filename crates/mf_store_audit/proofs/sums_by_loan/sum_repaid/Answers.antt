use Rattle.std.proofs.Common.{◌∙◌, ap, arith}
use Rattle.std.specs.Prelude.{sum_by}
use Rattle.std.proofs.lemmas.List.{take_all}
use Rattle.mf_account.proofs.StatusLemmas.{repaid_by, repaid-told}
use Rattle.mf_store_audit.proofs.LoanLemmas.{repaid_more}
use Rattle.mf_store_audit.proofs.sums_by_loan.sum_repaid.Goals as goal

pub loop-entry-preserved : goal.loop-entry-preserved
loop-entry-preserved c =
    let l = c.loop-entry in
    let more = repaid_more c.args.entries.now l.entry-index c.entry-item.result c.loop-entry-test.true
    c.entry-item.is in
    record {
      so_far = omega (arith, more, l.invariant.so_far, c.from-total.ensures, c.amount_brought.ensures);
      most = omega (arith, l.invariant.most, c.from-total.ensures);
    }

pub returns : goal.returns
returns c = c.loop-entry.invariant.so_far ∙ ap (sum_by repaid_by) (take_all c.loop-entry.entry-index c.args.entries.now
    c.loop-entry-test.false) ∙ repaid-told c.args.entries.now
