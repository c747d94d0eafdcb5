use Rattle.std.proofs.Common.{None, sym, ◌∙◌, true≢false}
use Rattle.std.proofs.lemmas.Result.{IfOk-weaker}
use Rattle.sqlite.specs.Held.{state}
use Rattle.mf_store_schema.proofs.ReadLemmas.{at_none, at_some}
use Rattle.mf_store_sound.proofs.JudgedLemmas.{can_be_held, can_be_opened, rows_are, are_of_sound}
use Rattle.mf_store_sound.proofs.JudgedLemmas.{none_kept, kept_none}
use Rattle.mf_store_sound.proofs.JudgedLemmas.{some_weaker, none_weaker, unchanged_twice, ours_there, rowids_there}
use Rattle.mf_store_sound.proofs.JudgedLemmas.{journal_there, journal_here, found_here}
use Rattle.mf_store_sound.proofs.judged.read_sound.Goals as goal

pub returns-in_default-clause-none : goal.returns-in_default-clause-none
returns-in_default-clause-none g c clean ours h =
    at_none c.in_ok-tables.field-0 _ c.in_default.is (c.in_ok-tables.ensures.none clean ours) _
    (can_be_held c.args.version h.held.institution h.held.sound) h.held.holds

pub returns-then-not-sound-clause-none : goal.returns-then-not-sound-clause-none
returns-then-not-sound-clause-none g c clean ours h =
    let trees = (state g.S.Store c.args.connection.now).now.trees in
    let only = at_some c.in_ok-tables.field-0 _ c.in-Some.tables c.in-Some.is (c.in_ok-tables.ensures.only clean
    ours) in
    true≢false (sym (c.in_ok-sound.ensures.exact.1 (are_of_sound c.args.version trees c.in-Some.tables only h.held))
    ∙ c.if-not-sound.true)

-- ---- no journal

pub returns-in-First-clause-sound : goal.returns-in-First-clause-sound
returns-in-First-clause-sound g c clean ours rowids =
    let trees = (state g.S.Store c.args.connection.now).now.trees in
    let keeps = at_some c.in_ok-tables.field-0 _ c.in-Some.tables c.in-Some.is (c.in_ok-tables.ensures.keeps clean ours
    rowids) in
    can_be_opened c.args.version trees c.in-Some.tables keeps (c.in_ok-sound.ensures.exact.0 c.if-not-sound.false) None
    (none_kept c.args.version c.in-First.is trees) tt

pub returns-in-First-clause-rows : goal.returns-in-First-clause-rows
returns-in-First-clause-rows g c clean ours h =
    let trees = (state g.S.Store c.args.connection.now).now.trees in
    let only = at_some c.in_ok-tables.field-0 _ c.in-Some.tables c.in-Some.is (c.in_ok-tables.ensures.only clean
    ours) in
    rows_are c.args.version trees c.in-Some.tables only h.institution h.holds

pub returns-in-First-clause-journal : goal.returns-in-First-clause-journal
returns-in-First-clause-journal g c clean ours h =
    kept_none c.args.version c.in-First.is (state g.S.Store c.args.connection.now).now.trees h.institution.journal
    h.keeps

-- ---- the journal beside the other tables

pub returns-in-Third-clause-kept : goal.returns-in-Third-clause-kept
returns-in-Third-clause-kept g c = unchanged_twice c.args.version c.in-Third.is
    (state g.S.Store c.args.connection.now) (state g.S.Store c.read_tables.new.connection)
    (state g.S.Store c.with_journal.new.connection) c.read_tables.ensures.kept c.with_journal.ensures.kept

pub returns-in-Third-clause-sound : goal.returns-in-Third-clause-sound
returns-in-Third-clause-sound g c clean ours rowids =
    let v = c.args.version in
    let third = c.in-Third.is in
    let was = (state g.S.Store c.args.connection.now).now in
    let now = (state g.S.Store c.read_tables.new.connection).now in
    let early = c.with_journal.ensures.kept.premise clean in
    let same = c.read_tables.ensures.kept.same early (c.in_ok-tables.ensures.open early) ours in
    let keeps = at_some c.in_ok-tables.field-0 _ c.in-Some.tables c.in-Some.is (c.in_ok-tables.ensures.keeps early ours
    rowids) in
    IfOk-weaker c.with_journal.result _ _ (λ x told. some_weaker x _ _ (λ found kept.
    can_be_opened v was.trees c.in-Some.tables keeps (c.in_ok-sound.ensures.exact.0 c.if-not-sound.false) kept.0
    (journal_here v third was now same kept.0 kept.1) kept.2) told)
    (c.with_journal.ensures.some clean (ours_there v third was now same ours) (rowids_there v third was now same
    rowids))

pub returns-in-Third-clause-rows : goal.returns-in-Third-clause-rows
returns-in-Third-clause-rows g c clean ours =
    let trees = (state g.S.Store c.args.connection.now).now.trees in
    let early = c.with_journal.ensures.kept.premise clean in
    let only = at_some c.in_ok-tables.field-0 _ c.in-Some.tables c.in-Some.is (c.in_ok-tables.ensures.only early
    ours) in
    IfOk-weaker c.with_journal.result _ _ (λ x told. some_weaker x _ _ (λ found is h.
    rows_are c.args.version trees c.in-Some.tables only h.institution h.holds ∙ sym is) told)
    c.with_journal.ensures.rows

pub returns-in-Third-clause-journal : goal.returns-in-Third-clause-journal
returns-in-Third-clause-journal g c clean ours =
    let v = c.args.version in
    let third = c.in-Third.is in
    let was = (state g.S.Store c.args.connection.now).now in
    let now = (state g.S.Store c.read_tables.new.connection).now in
    let early = c.with_journal.ensures.kept.premise clean in
    let same = c.read_tables.ensures.kept.same early (c.in_ok-tables.ensures.open early) ours in
    IfOk-weaker c.with_journal.result _ _ (λ x told. some_weaker x _ _ (λ found only h.
    found_here v third was now same found.journal h.institution.journal
    (only h.institution.journal (journal_there v third was now same h.institution.journal h.keeps))) told)
    (c.with_journal.ensures.only clean (ours_there v third was now same ours))

pub returns-in-Third-clause-none : goal.returns-in-Third-clause-none
returns-in-Third-clause-none g c clean ours =
    let v = c.args.version in
    let third = c.in-Third.is in
    let was = (state g.S.Store c.args.connection.now).now in
    let now = (state g.S.Store c.read_tables.new.connection).now in
    let early = c.with_journal.ensures.kept.premise clean in
    let same = c.read_tables.ensures.kept.same early (c.in_ok-tables.ensures.open early) ours in
    IfOk-weaker c.with_journal.result _ _ (λ x told. none_weaker x _ _ (λ none h.
    none h.held.institution.journal (journal_there v third was now same h.held.institution.journal h.held.keeps)
    h.told) told)
    (c.with_journal.ensures.none clean (ours_there v third was now same ours))
