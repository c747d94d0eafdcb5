use Rattle.std.proofs.Common.{refl, ◌∙◌}
use Rattle.mf_store_sql.proofs.OpenLemmas.{made_fresh, made_empty}
use Rattle.mf_store_sql.proofs.pages.empty_store.Goals as goal

pub returns-in-Ok-create-clause-fresh : goal.returns-in-Ok-create-clause-fresh
returns-in-Ok-create-clause-fresh c = let made =
    c.in-Ok-create.ensures in made_fresh (λ _. refl) _ made.ready made.numbered

pub returns-in-Ok-create-clause-empty : goal.returns-in-Ok-create-clause-empty
returns-in-Ok-create-clause-empty c = made_empty (λ _. refl) c.in-Ok-create.store (c.in-Ok-create.ensures.schema
    ∙ c.in-Ok-new.ensures.schema)
