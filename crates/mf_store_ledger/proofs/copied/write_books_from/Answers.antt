use Rattle.std.proofs.Common.{sym, subst}
use Rattle.sqlite.specs.Effect.{Database}
use Rattle.sqlite.specs.Held.{state}
use Rattle.mf_store_schema.proofs.ReadLemmas.{at_some}
use Rattle.mf_store_journal.specs.Reading.{IsThird}
use Rattle.mf_store_journal.proofs.GoingLemmas.{still_unchanged}
use Rattle.mf_store_ledger.proofs.AnswerLemmas.{copy_answer_before, copy_answer_of_one}
use Rattle.mf_store_ledger.proofs.copied.write_books_from.Goals as goal

pub returns-in-Ok-Some-clause-kept : goal.returns-in-Ok-Some-clause-kept
returns-in-Ok-Some-clause-kept g c =
    still_unchanged (state g.S.Store c.args.connection.now) (state g.S.Store c.read_journal.new.connection)
    (state g.S.Store c.copied_books.new.connection) c.read_journal.ensures.kept c.copied_books.ensures.kept

pub returns-in-Ok-Some-clause-open : goal.returns-in-Ok-Some-clause-open
returns-in-Ok-Some-clause-open g c clean =
    c.copied_books.ensures.open clean (c.in-Ok-Some.ensures.open ((c.copied_books.ensures.kept).premise clean))

pub returns-in-Ok-Some-clause-answer : goal.returns-in-Ok-Some-clause-answer
returns-in-Ok-Some-clause-answer g c clean its copied stands =
    let early = (c.copied_books.ensures.kept).premise clean in
    let old = state g.S.Store c.args.connection.now in
    let mid = state g.S.Store c.read_journal.new.connection in
    let same = (c.read_journal.ensures.kept).same early (c.in-Ok-Some.ensures.open early) its in
    copy_answer_of_one c.args.asked.now copied old.now.trees c.in-Ok-Some.journal (at_some c.in-Ok-Some.field-0 _
    c.in-Ok-Some.journal c.in-Ok-Some.field-0-is (c.in-Ok-Some.ensures.only early its)) c.copied_books.result
    (copy_answer_before c.args.asked.now copied old.now mid.now same c.in-Ok-Some.journal c.copied_books.result
    (λ lines. c.copied_books.ensures.answer clean (subst (λ (d : Database). IsThird d.schema) (sym same) its) copied
    lines stands))
