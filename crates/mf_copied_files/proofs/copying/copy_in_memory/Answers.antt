use Rattle.std.proofs.Common.{inr, refl}
use Rattle.sqlite.specs.Files.{file_state}
use Rattle.mf_store_files.proofs.OpenedLemmas.{opens_as_found, existing_errors, existing_none_sound, left_none}
use Rattle.mf_store_sound.proofs.SchemaLemmas.{known_some}
use Rattle.mf_store_sql.proofs.OpenLemmas.{always_clean}
use Rattle.mf_copied_files.proofs.copying.copy_in_memory.Goals as goal

pub returns-in-Ok-adopt_existing-clause-some : goal.returns-in-Ok-adopt_existing-clause-some
returns-in-Ok-adopt_existing-clause-some g c nothing =
    let made = c.in-Ok-adopt_existing in
    known_some (file_state c.in-Ok.connection).now.schema made.ensures.known
    ((c.in-Ok.ensures.shows (always_clean (λ _. refl) c.in-Ok.connection)).none nothing).schema_is

pub returns-in-Ok-adopt_existing-clause-copies : goal.returns-in-Ok-adopt_existing-clause-copies
returns-in-Ok-adopt_existing-clause-copies g c =
    let made = c.in-Ok-adopt_existing in
    opens_as_found _ c.in-Ok.connection c.in-Ok.ensures.shows made.store made.ensures.taken (inr made.ensures.known)

pub returns-in-Err-adopt_existing-clause-none : goal.returns-in-Err-adopt_existing-clause-none
returns-in-Err-adopt_existing-clause-none g c told =
    let left = c.in-Err-adopt_existing in
    (left_none _ c.in-Ok.connection c.in-Ok.ensures.shows left.connection left.refused left.ensures.none
    left.ensures.same left.ensures.given_back told (always_clean (λ _. refl) left.connection)).1

pub returns-in-Err-adopt_existing-clause-refused : goal.returns-in-Err-adopt_existing-clause-refused
returns-in-Err-adopt_existing-clause-refused g c told =
    let left = c.in-Err-adopt_existing in
    existing_none_sound _ c.in-Ok.connection c.in-Ok.ensures.shows left.connection left.refused left.ensures.none
    left.ensures.same left.ensures.given_back told (always_clean (λ _. refl) left.connection)

pub returns-in-Err-adopt_existing-clause-errors : goal.returns-in-Err-adopt_existing-clause-errors
returns-in-Err-adopt_existing-clause-errors g c =
    let left = c.in-Err-adopt_existing in
    existing_errors _ c.in-Ok.connection c.in-Ok.ensures.shows left.connection left.refused left.ensures.none
    left.ensures.same left.ensures.given_back
