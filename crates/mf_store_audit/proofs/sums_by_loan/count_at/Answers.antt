use Rattle.std.proofs.Common.{◌∙◌}
use Rattle.mf_store_audit.proofs.LoanLemmas.{at_alone}
use Rattle.mf_store_audit.proofs.sums_by_loan.count_at.Goals as goal

pub returns : goal.returns
returns c k l is = λ t. record {
  submitted = (c.one_if.ensures.value ∙ at_alone k l c.args.status 100 is) t;
  approved = (c.one_if-2.ensures.value ∙ at_alone k l c.args.status 200 is) t;
  active = (c.one_if-3.ensures.value ∙ at_alone k l c.args.status 300 is) t;
  withdrawn = (c.one_if-4.ensures.value ∙ at_alone k l c.args.status 400 is) t;
  rejected = (c.one_if-5.ensures.value ∙ at_alone k l c.args.status 500 is) t;
  closed = (c.one_if-6.ensures.value ∙ at_alone k l c.args.status 600 is) t;
  written_off = (c.one_if-7.ensures.value ∙ at_alone k l c.args.status 601 is) t;
  overpaid = (c.one_if-8.ensures.value ∙ at_alone k l c.args.status 700 is) t;
}
