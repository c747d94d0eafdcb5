use Rattle.std.proofs.Common.{refl}
use Rattle.sqlite.specs.Files.{over_files}
use Rattle.sqlite.specs.Held.{state}
use Rattle.mf_store_sql.proofs.OpenLemmas.{always_clean}
use Rattle.mf_store.proofs.FirstLemmas.{empty_serves}
use Rattle.microloan_commands.proofs.first.in_memory.Goals as goal

pub returns-in-Ok-create-clause-stands : goal.returns-in-Ok-create-clause-stands
returns-in-Ok-create-clause-stands c = c.in-Ok-create.ensures.stands (always_clean (λ _. refl)
    c.in-Ok-create.store.connection) (empty_serves (state over_files c.in-Ok.connection) c.in-Ok.ensures.empty)

pub returns-in-Ok-create-clause-leaves : goal.returns-in-Ok-create-clause-leaves
returns-in-Ok-create-clause-leaves c = c.in-Ok-create.ensures.leaves (always_clean (λ _. refl)
    c.in-Ok-create.store.connection) (empty_serves (state over_files c.in-Ok.connection) c.in-Ok.ensures.empty)

pub returns-in-Ok-create-clause-open : goal.returns-in-Ok-create-clause-open
returns-in-Ok-create-clause-open c =
    c.in-Ok-create.ensures.open (always_clean (λ _. refl) c.in-Ok-create.store.connection)
