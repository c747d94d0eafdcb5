use Rattle.std.proofs.Common.{inl, inr, sym, subst}
use Rattle.sqlite_catalog.specs.Listing.{IsSound}
use Rattle.sqlite_wal.specs.Files.{image_at}
use Rattle.mf_store_sql.specs.Tables.{no_schema}
use Rattle.mf_store_files.proofs.OpenedLemmas.{opens_as_found, stays_as_found, third_alone, left_as_it_was}
use Rattle.mf_store_files.proofs.files.open_journaled_with.Goals as goal

pub returns-in-Ok-adopt_journaled-clause-made : goal.returns-in-Ok-adopt_journaled-clause-made
returns-in-Ok-adopt_journaled-clause-made g c clean nothing =
    let made = c.in-Ok-adopt_journaled in
    made.ensures.made clean ((c.in-Ok.ensures.shows (made.ensures.taken.premise clean)).none nothing)

pub returns-in-Ok-adopt_journaled-clause-made_leaves : goal.returns-in-Ok-adopt_journaled-clause-made_leaves
returns-in-Ok-adopt_journaled-clause-made_leaves g c clean nothing =
    let made = c.in-Ok-adopt_journaled in
    made.ensures.made_leaves clean ((c.in-Ok.ensures.shows (made.ensures.taken.premise clean)).none nothing)

pub returns-in-Ok-adopt_journaled-clause-found : goal.returns-in-Ok-adopt_journaled-clause-found
returns-in-Ok-adopt_journaled-clause-found g c =
    let made = c.in-Ok-adopt_journaled in
    opens_as_found (image_at g.S.Start) c.in-Ok.connection c.in-Ok.ensures.shows made.store made.ensures.taken
    made.ensures.known

pub returns-in-Ok-adopt_journaled-clause-keeps : goal.returns-in-Ok-adopt_journaled-clause-keeps
returns-in-Ok-adopt_journaled-clause-keeps g c clean =
    let made = c.in-Ok-adopt_journaled in
    third_alone (image_at g.S.Start) c.in-Ok.connection c.in-Ok.ensures.shows made.ensures.keeps
    (made.ensures.taken.premise clean)

pub returns-in-Err-adopt_journaled-clause-unfounded : goal.returns-in-Err-adopt_journaled-clause-unfounded
returns-in-Err-adopt_journaled-clause-unfounded g c clean nothing day founds left may =
    let back = c.in-Err-adopt_journaled in
    let shows = c.in-Ok.ensures.shows (back.ensures.still clean) in
    let none = shows.none nothing in
    elim ((back.ensures.unfounded none day founds).stop clean none left may) [
      | inl before ↦ inl (subst (IsSound no_schema) (sym (shows.leaves left before)) none.holds)
      | inr made ↦ inr made
    ]

pub returns-in-Err-adopt_journaled-clause-kept : goal.returns-in-Err-adopt_journaled-clause-kept
returns-in-Err-adopt_journaled-clause-kept g c fault told =
    let back = c.in-Err-adopt_journaled in
    stays_as_found (image_at g.S.Start) c.in-Ok.connection c.in-Ok.ensures.shows back.connection fault
    (back.ensures.given_back fault told)

pub returns-in-Err-adopt_journaled-clause-as_it_was : goal.returns-in-Err-adopt_journaled-clause-as_it_was
returns-in-Err-adopt_journaled-clause-as_it_was g c told =
    let back = c.in-Err-adopt_journaled in
    left_as_it_was (image_at g.S.Start) c.in-Ok.connection c.in-Ok.ensures.shows back.connection
    (back.ensures.same told)
