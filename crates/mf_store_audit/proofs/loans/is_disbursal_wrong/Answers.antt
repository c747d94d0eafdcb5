use Rattle.std.proofs.Common.{◌==◌, refl}
use Rattle.mf_store_audit.proofs.LoanFlawLemmas.{disbursal_is}
use Rattle.mf_store_audit.proofs.loans.is_disbursal_wrong.Goals as goal

pub returns : goal.returns
returns c =
    disbursal_is c.args.row.now.stage c.args.row.now.disbursed c.is_no_status.result (c.args.row.now.stage == 300)
    c.is_day_if.result c.if-is_no_status.false c.is_no_status.ensures refl c.is_day_if.ensures
