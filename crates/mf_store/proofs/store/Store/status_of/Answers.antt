use Rattle.std.proofs.Common.{◌∙◌}
use Rattle.mf_store.proofs.KnownAccountLemmas.{status_known}
use Rattle.mf_store.proofs.store.Store.status_of.Goals as goal

pub returns-in-Some-clause-value : goal.returns-in-Some-clause-value
returns-in-Some-clause-value g c clean i s l there its =
    c.status-in-Some.ensures ∙ status_known c.args.account l i c.in-Some.known.now there (c.in-Some.ensures i
    (c.known.ensures i s))
