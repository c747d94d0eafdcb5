use Rattle.std.proofs.Common.{List, sym, subst}
use Rattle.sqlite.specs.Effect.{Database}
use Rattle.sqlite.specs.Held.{state}
use Rattle.mf_play.specs.Play.{AllTellRequests}
use Rattle.mf_store_journal.proofs.GoingLemmas.{still_unchanged}
use Rattle.mf_store_journal.specs.Reading.{IsThird}
use Rattle.mf_store_journal.specs.Written.{KeepsJournalFrom}
use Rattle.mf_store_schema.proofs.ReadLemmas.{at_none, at_some}
use Rattle.mf_store_told.proofs.FoundLemmas.{keeps_told, is_only, none_of, keeps_there}
use Rattle.mf_store_told.proofs.reading.read_told_journal.Goals as goal

pub returns-in-Ok-Some-clause-kept : goal.returns-in-Ok-Some-clause-kept
returns-in-Ok-Some-clause-kept g c =
    still_unchanged (state g.S.Store c.args.connection.now) (state g.S.Store c.read_journal.new.connection)
    (state g.S.Store c.if_told.new.connection) c.read_journal.ensures.kept c.if_told.ensures.kept

pub returns-in-Ok-Some-clause-some : goal.returns-in-Ok-Some-clause-some
returns-in-Ok-Some-clause-some g c clean its rowids =
    let read = c.in-Ok-Some in
    let was = (state g.S.Store c.args.connection.now).now in
    let now = (state g.S.Store c.read_journal.new.connection).now in
    let early = c.if_told.ensures.kept.premise clean in
    let same = c.read_journal.ensures.kept.same early (read.ensures.open early) its in
    let there = subst (λ (d : Database). IsThird d.schema) (sym same) its in
    let to = at_some read.field-0 _ read.journal read.field-0-is (read.ensures.some early its rowids) in
    keeps_told was.trees read.journal to c.if_told.result c.if_told.ensures.same
    (c.if_told.ensures.some clean there to.lines (keeps_there was now same read.journal.begins to.lines to.keeps))

pub returns-in-Ok-Some-clause-only : goal.returns-in-Ok-Some-clause-only
returns-in-Ok-Some-clause-only g c clean its =
    let read = c.in-Ok-Some in
    let trees = (state g.S.Store c.args.connection.now).now.trees in
    let early = c.if_told.ensures.kept.premise clean in
    is_only trees read.journal (at_some read.field-0 _ read.journal read.field-0-is (read.ensures.only early its))
    c.if_told.result c.if_told.ensures.same

pub returns-in-Ok-Some-clause-none : goal.returns-in-Ok-Some-clause-none
returns-in-Ok-Some-clause-none g c clean its =
    let read = c.in-Ok-Some in
    let was = (state g.S.Store c.args.connection.now).now in
    let now = (state g.S.Store c.read_journal.new.connection).now in
    let early = c.if_told.ensures.kept.premise clean in
    let same = c.read_journal.ensures.kept.same early (read.ensures.open early) its in
    let there = subst (λ (d : Database). IsThird d.schema) (sym same) its in
    let only = at_some read.field-0 _ read.journal read.field-0-is (read.ensures.only early its) in
    none_of (λ begins lines. KeepsJournalFrom begins was.trees lines) (λ lines. ¬ AllTellRequests lines)
    c.if_told.result (λ begins lines keeps. c.if_told.ensures.none clean there lines
    (keeps_there was now same read.journal.begins lines
    (subst (λ b. KeepsJournalFrom b was.trees lines) (sym (only begins lines keeps).0) keeps)))

pub returns-in-Ok-None-clause-none : goal.returns-in-Ok-None-clause-none
returns-in-Ok-None-clause-none g c clean its begins lines keeps told =
    let read = c.in-Ok-None in
    at_none read.field-0 _ read.field-0-is (read.ensures.none clean its) begins lines keeps
