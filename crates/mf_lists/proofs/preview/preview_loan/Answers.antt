use Rattle.std.proofs.Common.{sym, subst}
use Rattle.mf_catalog.specs.declared.terms.Terms.{Terms}
use Rattle.mf_schedule.specs.Fresh.{IsLoanWithinLimits}
use Rattle.mf_lists.proofs.PreviewLemmas.{limits_of}
use Rattle.mf_lists.proofs.preview.preview_loan.Goals as goal

pub preview_by-requires-clause-limits : goal.preview_by-requires-clause-limits
preview_by-requires-clause-limits c =
    let ok = c.in_ok-terms.ensures.ok in
    subst (λ (t : Terms). IsLoanWithinLimits t c.args.principal c.args.n) (sym ok.1)
    (limits_of c.args.charges.now c.args.product.now c.args.principal c.args.n c.requires.charges c.requires.members
    c.requires.agree ok.0)
