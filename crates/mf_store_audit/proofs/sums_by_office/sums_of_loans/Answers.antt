use Rattle.std.proofs.Common.{◌+◌, ◌∙◌, List, drop, subst, rules}
use Rattle.mf_store_schema.specs.declared.loans.LoanRow.{LoanRow}
use Rattle.mf_store_values.proofs.AccountRowLemmas.{at_end}
use Rattle.mf_store_values.proofs.MadeLemmas.{at_row}
use Rattle.mf_store_sound.proofs.LoanPartLemmas.{loan_of}
use Rattle.mf_store_audit.specs.Sums.{sums_by_loan, added}
use Rattle.mf_store_audit.proofs.AddedLemmas.{clients_first}
use Rattle.mf_store_audit.proofs.WalkLemmas.{IsLeft, loan_more, no_loan_left}
use Rattle.mf_store_audit.proofs.sums_by_office.sums_of_loans.Goals as goal

pub loop-row-init : goal.loop-row-init
loop-row-init c k sound e f x ls plain loans entries =
    record {
      number = 1;
      ls = ls;
      plain = plain;
      loans_are = loans;
      entries_are = entries;
      whole_is = (λ t. added (c.of_clients-sums.ensures t) (sums_by_loan k 0 ls))
          ∙ clients_first k c.args.clients ls;
    }

pub loop-row-preserved : goal.loop-row-preserved
loop-row-preserved c k sound e f x ls plain loans entries =
    let l = c.loop-row in
    let whole = sums_by_loan k c.args.clients ls in
    let so_far = subst (λ (rows : List LoanRow). IsLeft k x whole rows l.entries_left.now l.sums)
    (at_row c.args.loans.now l.row-index c.row-item.result c.loop-row-test.true c.row-item.is)
    (l.invariant k sound e f x ls plain loans entries) in
    loan_more k x whole (drop (l.row-index + 1) c.args.loans.now) l.entries_left.now _ _ l.sums _ _ c.row-item.result
    (c.split_by_owner.ensures.own loan_of (λ row n called. search rules))
    (c.split_by_owner.ensures.later loan_of (λ row n called. search rules))
    (c.in_ok-loan.ensures.sums k sound e f) c.in-Some.ensures.1 so_far

pub returns-clause-sums : goal.returns-clause-sums
returns-clause-sums c k sound e f x ls plain loans entries =
    let l = c.loop-row in
    let whole = sums_by_loan k c.args.clients ls in
    no_loan_left k x whole l.entries_left.now l.sums
    (subst (λ (rows : List LoanRow). IsLeft k x whole rows l.entries_left.now l.sums)
    (at_end c.args.loans.now l.row-index c.loop-row-test.false) (l.invariant k sound e f x ls plain loans entries))
