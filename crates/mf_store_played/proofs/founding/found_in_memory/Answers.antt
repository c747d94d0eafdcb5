use Rattle.std.proofs.Common.{refl}
use Rattle.sqlite.specs.Files.{over_files}
use Rattle.sqlite.specs.Held.{state}
use Rattle.mf_store_sql.proofs.OpenLemmas.{always_clean}
use Rattle.mf_store.proofs.FirstLemmas.{empty_serves}
use Rattle.mf_store_played.proofs.founding.found_in_memory.Goals as goal

pub returns-in-Ok-create_journaled-clause-stands : goal.returns-in-Ok-create_journaled-clause-stands
returns-in-Ok-create_journaled-clause-stands c =
    c.in-Ok-create_journaled.ensures.stands (always_clean (λ _. refl) c.in-Ok-create_journaled.store.connection)
    (empty_serves (state over_files c.in-Ok.connection) c.in-Ok.ensures.empty)
