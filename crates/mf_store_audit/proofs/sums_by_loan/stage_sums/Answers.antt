use Rattle.std.proofs.Common.{◌∙◌, ap}
use Rattle.mf_account.specs.Loan.{status_of_loan}
use Rattle.mf_model.specs.Accounts.{of_account}
use Rattle.mf_model.specs.Stages.{stage_number}
use Rattle.mf_store_audit.proofs.LoanLemmas.{stage_alone}
use Rattle.mf_store_audit.proofs.sums_by_loan.stage_sums.Goals as goal

pub returns : goal.returns
returns c k l none empty stage =
    let counts = c.count_at.ensures k l (ap (of_account (stage_number l.loan.stage) status_of_loan) none ∙ stage) in
    (λ t. record (c.of_clients-none.ensures t) { loans = c.count_at.result }) ∙ stage_alone k l c.count_at.result
    none empty counts
