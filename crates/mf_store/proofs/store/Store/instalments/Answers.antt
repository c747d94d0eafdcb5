use Rattle.std.proofs.Common.{Some, ap, ◌∙◌}
use Rattle.mf_store.proofs.KnownAccountLemmas.{instalments_known}
use Rattle.mf_store.proofs.store.Store.instalments.Goals as goal

pub returns-clause-value : goal.returns-clause-value
returns-clause-value g c clean i s =
    ap Some c.in_ok-lines.ensures.lines ∙ instalments_known c.args.account i c.in-Some.known.now
    (c.in-Some.ensures i (c.known.ensures i s))
