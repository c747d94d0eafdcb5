use Rattle.std.proofs.Common.{None, Some, false, refl}
use Rattle.mf_store_sound.proofs.LoanLemmas.{lent}
use Rattle.mf_store_sound.proofs.loans.does_lend.Goals as goal

pub returns-in-Some : goal.returns-in-Some
returns-in-Some c k e l own = lent k c.args.products.now (Some c.in-Some.product.now) c.args.row.now l
    c.is_allowed.result e c.in-Some.ensures own (λ number p is. c.is_allowed.ensures number p is l own)

pub returns-in-None : goal.returns-in-None
returns-in-None c k e l own = lent k c.args.products.now None c.args.row.now l false e c.in-None.ensures own refl
