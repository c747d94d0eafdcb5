use Rattle.std.proofs.Common.{List, sym, subst}
use Rattle.std.proofs.lemmas.Result.{on_ok_weaker}
use Rattle.sqlite.specs.Held.{state}
use Rattle.mf_store_schema.specs.Versions.{IsOfVersion}
use Rattle.mf_store_schema.specs.declared.versions.Version.{Version}
use Rattle.mf_store_sound.proofs.NestedLemmas.{unchanged_fewer}
use Rattle.mf_store_audit.specs.Unread.{AddUnread, tables_searched}
use Rattle.mf_store_audit.specs.declared.unread.TableName.{TableName}
use Rattle.mf_store_audit.proofs.KeptLemmas.{under_common, under_all, present_of, later_tables}
use Rattle.mf_store_audit.proofs.searched.add_unread_at.Goals as goal

pub returns-in-First-clause-kept : goal.returns-in-First-clause-kept
returns-in-First-clause-kept g c = unchanged_fewer _ (IsOfVersion c.args.version)
    (state g.S.Store c.args.connection.now) (state g.S.Store c.add_unread.new.connection)
    (λ k its. under_common k (c.args.version, its)) c.add_unread.ensures.kept

pub returns-in-First-clause-added : goal.returns-in-First-clause-added
returns-in-First-clause-added g c clean its =
    let db = (state g.S.Store c.args.connection.now).now in
    let start = c.args.unread.now.items in
    let last = c.add_unread.new.unread.items in
    on_ok_weaker c.add_unread.result
    (subst (λ (v : Version). AddUnread db (tables_searched v) c.args.all start last) (sym c.in-First.is))
    (c.add_unread.ensures.added clean (under_common _ (c.args.version, its)))

pub returns-in-Second-clause-kept : goal.returns-in-Second-clause-kept
returns-in-Second-clause-kept g c = unchanged_fewer _ (IsOfVersion c.args.version)
    (state g.S.Store c.args.connection.now) (state g.S.Store c.add_unread-in-Second.new.connection)
    (λ k its. under_all k (c.args.version, its) (present_of c.args.version c.in-Second.is k its))
    c.add_unread-in-Second.ensures.kept

pub returns-in-Second-clause-added : goal.returns-in-Second-clause-added
returns-in-Second-clause-added g c clean its =
    let db = (state g.S.Store c.args.connection.now).now in
    let start = c.args.unread.now.items in
    let last = c.add_unread-in-Second.new.unread.items in
    on_ok_weaker c.add_unread-in-Second.result
    (subst (λ (names : List TableName). AddUnread db names c.args.all start last)
    (later_tables c.args.version c.in-Second.is))
    (c.add_unread-in-Second.ensures.added clean (under_all db.schema (c.args.version, its)
    (present_of c.args.version c.in-Second.is db.schema its)))
