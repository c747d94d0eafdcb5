use Rattle.std.proofs.Common.{None, sym, subst}
use Rattle.std.proofs.lemmas.Result.{IfOk-weaker}
use Rattle.sqlite.specs.Effect.{Database}
use Rattle.sqlite.specs.Held.{state}
use Rattle.mf_store_schema.specs.Versions.{IsOfVersion}
use Rattle.mf_store_schema.proofs.ReadLemmas.{at_none, at_some}
use Rattle.mf_store_audit.specs.Audits.{IsAuditOf, IsWithJournal}
use Rattle.mf_store_audit.specs.Unread.{AreToldOfAll, AreUnread, tables_searched}
use Rattle.mf_store_audit.proofs.AuditLemmas.{of_rows, of_rows_with_journal, unread_none}
use Rattle.mf_store_sound.proofs.JudgedLemmas.{none_kept, ours_there, rowids_there, unchanged_twice}
use Rattle.mf_store_audit.proofs.KeptLemmas.{then_under}
use Rattle.mf_store_audit.proofs.audits.audit_known.Goals as goal

pub returns-in_err-unread-clause-kept : goal.returns-in_err-unread-clause-kept
returns-in_err-unread-clause-kept g c =
    then_under (IsOfVersion c.args.version) (IsOfVersion c.args.version) (state g.S.Store c.args.connection.now)
    (state g.S.Store c.read_tables.new.connection) (state g.S.Store c.unread_at.new.connection) (λ k is. is)
    c.read_tables.ensures.kept c.unread_at.ensures.kept

pub returns-in_default-clause-kept : goal.returns-in_default-clause-kept
returns-in_default-clause-kept g c =
    then_under (IsOfVersion c.args.version) (IsOfVersion c.args.version) (state g.S.Store c.args.connection.now)
    (state g.S.Store c.read_tables.new.connection) (state g.S.Store c.unread_at.new.connection) (λ k is. is)
    c.read_tables.ensures.kept c.unread_at.ensures.kept

pub returns-in_default-clause-exact : goal.returns-in_default-clause-exact
returns-in_default-clause-exact g c clean ours rowids =
    let db = (state g.S.Store c.args.connection.now).now in
    let early = c.unread_at.ensures.kept.premise clean in
    let same = c.read_tables.ensures.kept.same early (c.in_ok-tables.ensures.open early) ours in
    let its = subst (λ (d : Database). IsOfVersion c.args.version d.schema) (sym same) ours in
    let none = at_none c.in_ok-tables.field-0 _ c.in_default.is (c.in_ok-tables.ensures.none early ours) in
    let found = c.in_ok-unread.ensures.found clean its in (
      ours,
      unread_none db c.args.version ours none,
      subst (λ (d : Database). AreUnread c.args.version d c.in_ok-unread.unread.items) same found,
    )

pub returns-in_default-clause-every : goal.returns-in_default-clause-every
returns-in_default-clause-every g c whole clean ours =
    let early = c.unread_at.ensures.kept.premise clean in
    let same = c.read_tables.ensures.kept.same early (c.in_ok-tables.ensures.open early) ours in
    let its = subst (λ (d : Database). IsOfVersion c.args.version d.schema) (sym same) ours in
    subst (λ (d : Database). AreToldOfAll d (tables_searched c.args.version) c.in_ok-unread.unread.items) same
    (c.in_ok-unread.ensures.every clean its whole)

pub returns-in-First-clause-exact : goal.returns-in-First-clause-exact
returns-in-First-clause-exact g c clean ours rowids =
    let v = c.args.version in
    let db = (state g.S.Store c.args.connection.now).now in
    let tables = c.in-Some.tables in
    let only = at_some c.in_ok-tables.field-0 _ tables c.in-Some.is (c.in_ok-tables.ensures.only clean ours) in
    let keeps = at_some c.in_ok-tables.field-0 _ tables c.in-Some.is (c.in_ok-tables.ensures.keeps clean ours rowids) in
    of_rows db v ours tables only keeps c.in_ok-audit.audit (λ _. (None, none_kept v c.in-First.is db.trees, tt))
    c.in_ok-audit.ensures.exact

pub returns-in-First-clause-every : goal.returns-in-First-clause-every
returns-in-First-clause-every g c whole clean ours =
    (c.in_ok-audit.ensures {u = tt}).every whole (state g.S.Store c.args.connection.now).now

pub returns-in-Third-clause-kept : goal.returns-in-Third-clause-kept
returns-in-Third-clause-kept g c = unchanged_twice c.args.version c.in-Third.is
    (state g.S.Store c.args.connection.now) (state g.S.Store c.read_tables.new.connection)
    (state g.S.Store c.audit_journal.new.connection) c.read_tables.ensures.kept c.audit_journal.ensures.kept

pub returns-in-Third-clause-exact : goal.returns-in-Third-clause-exact
returns-in-Third-clause-exact g c clean ours rowids =
    let v = c.args.version in
    let third = c.in-Third.is in
    let db = (state g.S.Store c.args.connection.now).now in
    let now = (state g.S.Store c.read_tables.new.connection).now in
    let early = c.audit_journal.ensures.kept.premise clean in
    let same = c.read_tables.ensures.kept.same early (c.in_ok-tables.ensures.open early) ours in
    let tables = c.in-Some.tables in
    let only = at_some c.in_ok-tables.field-0 _ tables c.in-Some.is (c.in_ok-tables.ensures.only early ours) in
    let keeps = at_some c.in_ok-tables.field-0 _ tables c.in-Some.is (c.in_ok-tables.ensures.keeps early ours rowids) in
    IfOk-weaker c.audit_journal.result _ (IsAuditOf db) (λ whole told.
    of_rows_with_journal db v ours tables only third keeps c.in_ok-audit.audit whole c.in_ok-audit.ensures.exact
    (subst (λ (d : Database). IsWithJournal d.trees c.in_ok-audit.audit whole) same told))
    (c.audit_journal.ensures.exact clean (ours_there v third db now same ours)
    (rowids_there v third db now same rowids))

pub returns-in-Third-clause-every : goal.returns-in-Third-clause-every
returns-in-Third-clause-every g c whole clean ours =
    let db = (state g.S.Store c.args.connection.now).now in
    c.audit_journal.ensures.every db ((c.in_ok-audit.ensures {u = tt}).every whole db)
