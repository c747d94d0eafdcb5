use Rattle.std.proofs.Common.{sym, subst}
use Rattle.std.proofs.lemmas.Result.{on_ok_weaker}
use Rattle.sqlite.specs.Effect.{Database}
use Rattle.sqlite.specs.Held.{state}
use Rattle.mf_store_schema.proofs.ReadLemmas.{unchanged_then}
use Rattle.mf_store_audit.specs.Unread.{AddUnread}
use Rattle.mf_store_audit.proofs.ToldLemmas.{adds_then}
use Rattle.mf_store_audit.proofs.searched.Tuple2Searched.add_unread.Goals as goal

pub returns-clause-kept : goal.returns-clause-kept
returns-clause-kept g c =
    unchanged_then g.A.Searched.IsUnder g.B.Searched.IsUnder (state g.S.Store c.args.connection.now)
    (state g.S.Store c.add_unread.new.connection) (state g.S.Store c.add_unread-2.new.connection)
    c.add_unread.ensures.kept c.add_unread-2.ensures.kept

pub returns-clause-added : goal.returns-clause-added
returns-clause-added g c clean its =
    let db = (state g.S.Store c.args.connection.now).now in
    let all = c.args.all in
    let start = c.args.unread.now.items in
    let first = c.add_unread.new.unread.items in
    let last = c.add_unread-2.new.unread.items in
    let names = g.A.Searched.names in
    let others = g.B.Searched.names in
    let early = c.add_unread-2.ensures.kept.premise clean in
    let same = c.add_unread.ensures.kept.same early (c.in_ok-add_unread.ensures.open early) its.0 in
    on_ok_weaker c.add_unread-2.result (λ more. adds_then db all start first names others last
    ((c.in_ok-add_unread.ensures {u = tt}).added early its.0)
    (subst (λ (d : Database). AddUnread d others all first last) same more))
    (c.add_unread-2.ensures.added clean (subst (λ (d : Database). g.B.Searched.IsUnder d.schema) (sym same) its.1))
