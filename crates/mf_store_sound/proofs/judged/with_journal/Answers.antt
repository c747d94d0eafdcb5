use Rattle.sqlite.specs.Held.{state}
use Rattle.mf_store_schema.proofs.ReadLemmas.{at_none, at_some}
use Rattle.mf_store_sound.proofs.JudgedLemmas.{journal_found, told_kept, no_told_kept}
use Rattle.mf_store_sound.proofs.judged.with_journal.Goals as goal

pub returns-in-Ok-Some-clause-some : goal.returns-in-Ok-Some-clause-some
returns-in-Ok-Some-clause-some g c clean ours rowids =
    let read = c.in-Ok-Some in
    let trees = (state g.S.Store c.args.connection.now).now.trees in
    told_kept trees read.journal (at_some read.field-0 _ read.journal read.field-0-is
    (read.ensures.some clean ours rowids))

pub returns-in-Ok-Some-clause-only : goal.returns-in-Ok-Some-clause-only
returns-in-Ok-Some-clause-only g c clean ours =
    let read = c.in-Ok-Some in
    let trees = (state g.S.Store c.args.connection.now).now.trees in
    journal_found trees read.journal (at_some read.field-0 _ read.journal read.field-0-is
    (read.ensures.only clean ours))

pub returns-in-Ok-None-clause-none : goal.returns-in-Ok-None-clause-none
returns-in-Ok-None-clause-none g c clean ours =
    let read = c.in-Ok-None in
    let trees = (state g.S.Store c.args.connection.now).now.trees in
    no_told_kept trees (at_none read.field-0 _ read.field-0-is (read.ensures.none clean ours))
