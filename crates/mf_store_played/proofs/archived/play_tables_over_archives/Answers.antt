use Rattle.std.proofs.Common.{sym, subst}
use Rattle.sqlite.specs.Effect.{Database}
use Rattle.sqlite.specs.Held.{state}
use Rattle.mf_store_schema.proofs.ReadLemmas.{at_some}
use Rattle.mf_store_journal.specs.Reading.{IsThird}
use Rattle.mf_store_journal.proofs.GoingLemmas.{still_unchanged}
use Rattle.mf_store_played.proofs.ArchivedLemmas.{archived_answer_of_one, archived_answer_before}
use Rattle.mf_store_played.proofs.archived.play_tables_over_archives.Goals as goal

pub returns-in-Ok-Some-clause-kept : goal.returns-in-Ok-Some-clause-kept
returns-in-Ok-Some-clause-kept g c =
    still_unchanged (state g.S.Store c.args.connection.now) (state g.S.Store c.read_journal.new.connection)
    (state g.S.Store c.play_archived.new.connection) c.read_journal.ensures.kept c.play_archived.ensures.kept

pub returns-in-Ok-Some-clause-open : goal.returns-in-Ok-Some-clause-open
returns-in-Ok-Some-clause-open g c clean =
    c.play_archived.ensures.open clean (c.in-Ok-Some.ensures.open ((c.play_archived.ensures.kept).premise clean))

pub returns-in-Ok-Some-clause-answer : goal.returns-in-Ok-Some-clause-answer
returns-in-Ok-Some-clause-answer g c clean its archives =
    let early = (c.play_archived.ensures.kept).premise clean in
    let old = state g.S.Store c.args.connection.now in
    let mid = state g.S.Store c.read_journal.new.connection in
    let same = (c.read_journal.ensures.kept).same early (c.in-Ok-Some.ensures.open early) its in
    archived_answer_of_one c.args.archives.now old.now.trees c.in-Ok-Some.journal
    (at_some c.in-Ok-Some.field-0 _ c.in-Ok-Some.journal c.in-Ok-Some.field-0-is (c.in-Ok-Some.ensures.only early its))
    c.play_archived.result (archived_answer_before c.args.archives.now old.now mid.now same c.in-Ok-Some.journal
    c.play_archived.result (c.play_archived.ensures.answer clean
    (subst (λ (d : Database). IsThird d.schema) (sym same) its) archives))
