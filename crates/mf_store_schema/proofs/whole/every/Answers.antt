use Rattle.std.proofs.Common.{[], IsTrue, sym, subst, rules}
use Rattle.std.specs.List.{AllByRecursion}
use Rattle.sqlite.specs.Held.{state}
use Rattle.sqlite_catalog.specs.Listing.{IsSound}
use Rattle.mf_store_sql.specs.Queries.{Answers}
use Rattle.mf_store_schema.specs.Fields.{HasFields}
use Rattle.mf_store_schema.proofs.ReadLemmas.{some_read, none_read, rows_of, only_those, unchanged}
use Rattle.mf_store_schema.proofs.whole.every.Goals as goal

pub returns-clause-kept : goal.returns-clause-kept
returns-clause-kept g c =
    unchanged g.T.Table.IsUnder (state g.S.Store c.args.connection.now) (state g.S.Store c.read_shown.new.connection)
    c.whole_text.result.now c.whole_text.ensures.plain c.read_shown.ensures.same c.read_shown.ensures.was_open
    c.read_shown.ensures.crash

pub returns-clause-only : goal.returns-clause-only
returns-clause-only g c clean its =
    let db = (state g.S.Store c.args.connection.now).now in
    let old = state g.S.Store c.args.connection.now in
    let sound : IsTrue old.is_open → IsSound db.schema db.trees = λ up. search rules in
    some_read g.T.Table.stored (g.T.Table.columns).columns c.read_shown.result
    (IsTrue (state g.S.Store c.read_shown.new.connection).is_open) (Answers c.whole_text.result.now [] db)
    (c.read_shown.ensures.still_open clean) (c.read_shown.ensures.read clean) _ (λ up
    rs rows are shown items kept. only_those g.T.Table.stored rs.items rows are
    items ((c.whole_text.ensures.shows db rows its
    (sound (c.read_shown.ensures.was_open clean up)) shown).shows items kept))

pub returns-clause-keeps : goal.returns-clause-keeps
returns-clause-keeps g c clean its whole =
    let db = (state g.S.Store c.args.connection.now).now in
    let old = state g.S.Store c.args.connection.now in
    let sound : IsTrue old.is_open → IsSound db.schema db.trees = λ up. search rules in
    some_read g.T.Table.stored (g.T.Table.columns).columns c.read_shown.result
    (IsTrue (state g.S.Store c.read_shown.new.connection).is_open) (Answers c.whole_text.result.now [] db)
    (c.read_shown.ensures.still_open clean) (c.read_shown.ensures.read clean) _ (λ up
    rs rows are shown rising. (c.whole_text.ensures.shows db rows its
    (sound (c.read_shown.ensures.was_open clean up)) shown).keeps whole rs.items rising
    (sym (rows_of g.T.Table.stored rs.items rows are)))

pub returns-clause-none : goal.returns-clause-none
returns-clause-none g c clean its =
    let db = (state g.S.Store c.args.connection.now).now in
    let old = state g.S.Store c.args.connection.now in
    let sound : IsTrue old.is_open → IsSound db.schema db.trees = λ up. search rules in
    none_read g.T.Table.stored (g.T.Table.columns).columns c.read_shown.result
    (IsTrue (state g.S.Store c.read_shown.new.connection).is_open) (Answers c.whole_text.result.now [] db)
    (c.read_shown.ensures.still_open clean) (c.read_shown.ensures.read clean) _ (λ up
    rows unread shown items held kept. unread
    (subst (AllByRecursion (HasFields (g.T.Table.columns).columns)) (sym
    ((c.whole_text.ensures.shows db rows its
    (sound (c.read_shown.ensures.was_open clean up)) shown).shows items kept)) held))
