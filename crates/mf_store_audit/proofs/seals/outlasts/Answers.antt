use Rattle.mf_store_audit.proofs.EntryFlawLemmas.{outlasts_by, not_past}
use Rattle.mf_store_audit.proofs.seals.outlasts.Goals as goal

pub returns-clause-some : goal.returns-clause-some
returns-clause-some c =
    outlasts_by c.args.row.now c.args.seal.now c.is_past.result (c.is_same_loan.ensures.0 c.if-not-is_same_loan.false)
    (c.is_readable.ensures.0 c.if-not-is_readable.false) c.is_past.ensures

pub returns-clause-every : goal.returns-clause-every
returns-clause-every c e f readable is its own apart stands later =
    not_past e f c.is_past.result apart stands later (c.is_past.ensures c.args.seal.now.office c.args.seal.now.loan f e
    its own readable is)
