use Rattle.sqlite.specs.Held.{state}
use Rattle.mf_store_schema.proofs.ReadLemmas.{at_some, at_none}
use Rattle.mf_store_journal.proofs.GoingLemmas.{unchanged_itself}
use Rattle.mf_store_played.proofs.copied.play_copied.Goals as goal

pub returns-in-Ok-Some-clause-answer : goal.returns-in-Ok-Some-clause-answer
returns-in-Ok-Some-clause-answer g c clean its copied i lines stands playable =
    let made = c.in-Ok-Some in
    let begun = at_some made.field-0 _ made.store made.field-0-is made.ensures.begun in
    c.play_begun.ensures.answer clean its copied i lines (begun copied stands) playable

pub returns-in-Ok-None-clause-kept : goal.returns-in-Ok-None-clause-kept
returns-in-Ok-None-clause-kept g c = unchanged_itself (state g.S.Store c.args.connection.now)

pub returns-in-Ok-None-clause-answer : goal.returns-in-Ok-None-clause-answer
returns-in-Ok-None-clause-answer g c clean its copied i lines stands playable =
    let kept = c.in-Ok-None in
    let some = at_none kept.field-0 _ kept.field-0-is kept.ensures.none in
    (λ copy. some copied stands copy.none, playable.stands)

pub returns-in-Err-clause-kept : goal.returns-in-Err-clause-kept
returns-in-Err-clause-kept g c = unchanged_itself (state g.S.Store c.args.connection.now)
