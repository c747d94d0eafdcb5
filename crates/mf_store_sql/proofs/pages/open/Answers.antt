use Rattle.std.proofs.Common.{refl}
use Rattle.mf_store_sql.proofs.OpenLemmas.{opened_empty}
use Rattle.mf_store_sql.proofs.pages.open.Goals as goal

pub returns-in-Ok-clause-empty : goal.returns-in-Ok-clause-empty
returns-in-Ok-clause-empty c = opened_empty (λ _. refl) c.in_ok-store.store c.in-Ok.connection
    c.in_ok-store.ensures.empty c.in-Ok.ensures.opens c.in-Ok.ensures.trees
