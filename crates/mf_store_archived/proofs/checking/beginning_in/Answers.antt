use Rattle.mf_store_journal.proofs.GoingLemmas.{beginning_line, none_given}
use Rattle.mf_store_archived.proofs.checking.beginning_in.Goals as goal

pub returns-in_err-kept-clause-none : goal.returns-in_err-kept-clause-none
returns-in_err-kept-clause-none c =
    none_given c.from_residual.result _ c.from_residual.ensures
    (λ h can is. c.in_err-kept.ensures.none (beginning_line h can c.args.row.now is))
