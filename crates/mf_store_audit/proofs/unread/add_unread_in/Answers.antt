use Rattle.std.proofs.Common.{IsTrue, rules, subst, sym}
use Rattle.std.proofs.lemmas.Result.{on_ok_weaker}
use Rattle.sqlite.specs.Held.{state}
use Rattle.sqlite_catalog.specs.Listing.{IsSound}
use Rattle.mf_store_audit.specs.Unread.{AreShown}
use Rattle.mf_store_audit.proofs.ToldLemmas.{adds_table}
use Rattle.mf_store_audit.proofs.unread.add_unread_in.Goals as goal

pub returns-clause-added : goal.returns-clause-added
returns-clause-added g c clean its =
    let old = state g.S.Store c.args.connection.now in
    let db = old.now in
    let sound : IsTrue old.is_open → IsSound db.schema db.trees = λ up. search rules in
    let name = g.T.NamedTable.name in
    let told = c.shown_text.ensures.shows db c.in-Ok.rows.items its (sound (c.in-Ok.ensures.ok_open clean))
    (c.in-Ok.ensures.rows clean) in
    let shown = subst (AreShown name db) (sym c.deref.ensures.value) told in
    on_ok_weaker c.add_told.result (λ added. adds_table db c.args.all c.args.unread.now.items
    c.add_told.new.unread.items name c.deref.result.now shown added) c.add_told.ensures.added
