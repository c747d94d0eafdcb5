use Rattle.sqlite.specs.Held.{state}
use Rattle.mf_store_schema.proofs.ReadLemmas.{at_some, at_none}
use Rattle.mf_store_journal.proofs.GoingLemmas.{unchanged_itself}
use Rattle.mf_store_ledger.proofs.copied.copied_books.Goals as goal

pub returns-in-Ok-Some-clause-answer : goal.returns-in-Ok-Some-clause-answer
returns-in-Ok-Some-clause-answer g c clean its copied lines stands keeps =
    let made = c.in-Ok-Some in
    let begun = at_some made.field-0 _ made.store made.field-0-is made.ensures.begun in
    c.books_begun.ensures.answer clean its copied lines (begun copied stands) keeps

pub returns-in-Ok-None-clause-kept : goal.returns-in-Ok-None-clause-kept
returns-in-Ok-None-clause-kept g c = unchanged_itself (state g.S.Store c.args.connection.now)

pub returns-in-Ok-None-clause-answer : goal.returns-in-Ok-None-clause-answer
returns-in-Ok-None-clause-answer g c clean its copied lines stands keeps copy =
    let kept = c.in-Ok-None in
    let some = at_none kept.field-0 _ kept.field-0-is kept.ensures.none in
    some copied stands copy.none

pub returns-in-Err-clause-kept : goal.returns-in-Err-clause-kept
returns-in-Err-clause-kept g c = unchanged_itself (state g.S.Store c.args.connection.now)
