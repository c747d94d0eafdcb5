use Rattle.std.proofs.Common.{ap}
use Rattle.mf_store_schema.proofs.ReadLemmas.{at_some}
use Rattle.mf_store_schema.proofs.groups.LastGroup.read_group.Goals as goal

pub returns-clause-only : goal.returns-clause-only
returns-clause-only g c clean its kept keeps =
    ap (λ l. (l, tt)) (at_some c.in_ok-found.found _ c.in-Some.rows c.in-Some.is
    (c.in_ok-found.ensures.only clean its.0) kept.0 keeps.0)
