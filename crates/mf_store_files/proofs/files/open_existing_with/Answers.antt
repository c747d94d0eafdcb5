use Rattle.std.proofs.Common.{inr}
use Rattle.sqlite.specs.Files.{file_state}
use Rattle.sqlite_wal.specs.Files.{image_at}
use Rattle.mf_store_files.proofs.OpenedLemmas.{opens_as_found, stays_as_found, told_none, left_none, existing_errors}
use Rattle.mf_store_files.proofs.OpenedLemmas.{existing_none_sound}
use Rattle.mf_store_sound.proofs.SchemaLemmas.{known_some}
use Rattle.mf_store_files.proofs.files.open_existing_with.Goals as goal

pub returns-in-Ok-adopt_existing-clause-some : goal.returns-in-Ok-adopt_existing-clause-some
returns-in-Ok-adopt_existing-clause-some g c clean nothing =
    let made = c.in-Ok-adopt_existing in
    known_some (file_state c.in-Ok.connection).now.schema made.ensures.known
    ((c.in-Ok.ensures.shows (made.ensures.taken.premise clean)).none nothing).schema_is

pub returns-in-Ok-adopt_existing-clause-found : goal.returns-in-Ok-adopt_existing-clause-found
returns-in-Ok-adopt_existing-clause-found g c =
    let made = c.in-Ok-adopt_existing in
    opens_as_found (image_at g.S.Start) c.in-Ok.connection c.in-Ok.ensures.shows made.store made.ensures.taken
    (inr made.ensures.known)

pub returns-in-Err-adopt_existing-clause-none : goal.returns-in-Err-adopt_existing-clause-none
returns-in-Err-adopt_existing-clause-none g c =
    let left = c.in-Err-adopt_existing in
    told_none (image_at g.S.Start) c.in-Ok.connection c.in-Ok.ensures.shows left.connection left.refused
    left.ensures.none left.ensures.same left.ensures.given_back

pub returns-in-Err-adopt_existing-clause-unfounded : goal.returns-in-Err-adopt_existing-clause-unfounded
returns-in-Err-adopt_existing-clause-unfounded g c =
    let left = c.in-Err-adopt_existing in
    left_none (image_at g.S.Start) c.in-Ok.connection c.in-Ok.ensures.shows left.connection left.refused
    left.ensures.none left.ensures.same left.ensures.given_back

pub returns-in-Err-adopt_existing-clause-kept : goal.returns-in-Err-adopt_existing-clause-kept
returns-in-Err-adopt_existing-clause-kept g c fault told =
    let left = c.in-Err-adopt_existing in
    stays_as_found (image_at g.S.Start) c.in-Ok.connection c.in-Ok.ensures.shows left.connection fault
    (left.ensures.given_back fault told)

pub returns-in-Err-adopt_existing-clause-errors : goal.returns-in-Err-adopt_existing-clause-errors
returns-in-Err-adopt_existing-clause-errors g c =
    let left = c.in-Err-adopt_existing in
    existing_errors (image_at g.S.Start) c.in-Ok.connection c.in-Ok.ensures.shows left.connection left.refused
    left.ensures.none left.ensures.same left.ensures.given_back

pub returns-in-Err-adopt_existing-clause-refused : goal.returns-in-Err-adopt_existing-clause-refused
returns-in-Err-adopt_existing-clause-refused g c =
    let left = c.in-Err-adopt_existing in
    existing_none_sound (image_at g.S.Start) c.in-Ok.connection c.in-Ok.ensures.shows left.connection left.refused
    left.ensures.none left.ensures.same left.ensures.given_back
