use Rattle.std.proofs.Common.{inl, inr, sym, subst}
use Rattle.sqlite_catalog.specs.Listing.{IsSound}
use Rattle.sqlite_wal.specs.Files.{image_at}
use Rattle.mf_store_sql.specs.Tables.{no_schema}
use Rattle.mf_store_files.proofs.OpenedLemmas.{opens_as_found, stays_as_found, none_sound}
use Rattle.mf_store_files.proofs.files.open_with.Goals as goal

pub returns-in-Ok-adopt-clause-made : goal.returns-in-Ok-adopt-clause-made
returns-in-Ok-adopt-clause-made g c clean nothing =
    c.in-Ok-adopt.ensures.made clean ((c.in-Ok.ensures.shows (c.in-Ok-adopt.ensures.taken.premise clean)).none nothing)

pub returns-in-Ok-adopt-clause-made_leaves : goal.returns-in-Ok-adopt-clause-made_leaves
returns-in-Ok-adopt-clause-made_leaves g c clean nothing = c.in-Ok-adopt.ensures.made_leaves clean
    ((c.in-Ok.ensures.shows (c.in-Ok-adopt.ensures.taken.premise clean)).none nothing)

pub returns-in-Ok-adopt-clause-found : goal.returns-in-Ok-adopt-clause-found
returns-in-Ok-adopt-clause-found g c =
    opens_as_found (image_at g.S.Start) c.in-Ok.connection c.in-Ok.ensures.shows c.in-Ok-adopt.store
    c.in-Ok-adopt.ensures.taken c.in-Ok-adopt.ensures.known

pub returns-in-Err-adopt-clause-unfounded : goal.returns-in-Err-adopt-clause-unfounded
returns-in-Err-adopt-clause-unfounded g c clean nothing left may =
    let shows = c.in-Ok.ensures.shows (c.in-Err-adopt.ensures.given_back.still clean) in
    let none = shows.none nothing in
    elim ((c.in-Err-adopt.ensures.unfounded none).stop clean none left may) [
      | inl before ↦ inl (subst (IsSound no_schema) (sym (shows.leaves left before)) none.holds)
      | inr made ↦ inr made
    ]

pub returns-in-Err-adopt-clause-kept : goal.returns-in-Err-adopt-clause-kept
returns-in-Err-adopt-clause-kept g c =
    stays_as_found (image_at g.S.Start) c.in-Ok.connection c.in-Ok.ensures.shows c.in-Err-adopt.connection
    c.in-Err-adopt.fault c.in-Err-adopt.ensures.given_back

pub returns-in-Err-adopt-clause-refused : goal.returns-in-Err-adopt-clause-refused
returns-in-Err-adopt-clause-refused g c told clean =
    none_sound (image_at g.S.Start) c.in-Ok.connection c.in-Ok.ensures.shows c.in-Err-adopt.connection
    c.in-Err-adopt.fault c.in-Err-adopt.ensures.given_back told (c.in-Err-adopt.ensures.some told) clean
