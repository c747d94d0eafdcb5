use Rattle.mf_store_audit.proofs.LoanFlawLemmas.{approval_is}
use Rattle.mf_store_audit.proofs.loans.is_approval_wrong.Goals as goal

pub returns : goal.returns
returns c =
    approval_is c.args.row.now.stage c.args.row.now.approved c.is_no_status.result c.has_approval.result
    c.is_day_if.result c.if-is_no_status.false c.is_no_status.ensures c.has_approval.ensures c.is_day_if.ensures
