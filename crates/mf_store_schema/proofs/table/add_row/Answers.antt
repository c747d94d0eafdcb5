use Rattle.std.proofs.Common.{OnOk, IfErr, subst}
use Rattle.std.proofs.lemmas.Result.{on_ok_weaker}
use Rattle.sqlite.specs.Held.{state}
use Rattle.mf_store_sql.specs.Writes.{Ran}
use Rattle.mf_store_schema.specs.Writes.{Failed}
use Rattle.mf_store_schema.proofs.PutLemmas.{adding, is_new}
use Rattle.mf_store_schema.proofs.table.add_row.Goals as goal

pub returns-clause-ok : goal.returns-clause-ok
returns-clause-ok g c clean inside =
    let t = g.T.Table in
    let laws = g.met.T.Table in
    let x = c.args.row.now in
    let old = state g.S.Store c.args.tx.now.conn.now in
    let new = state g.S.Store c.execute.new.tx.conn.now in
    on_ok_weaker c.execute.result (λ ran. adding t.columns t.place t.tree t.stored t.by t.list t.put laws.ordered
    laws.fits laws.kept laws.held laws.changes laws.spared x old new
    (subst (λ sql. Ran sql (t.stored x) old new) c.insert_text.ensures ran)) (c.execute.ensures.ok clean inside)

pub returns-clause-new : goal.returns-clause-new
returns-clause-new g c clean inside =
    let t = g.T.Table in
    let laws = g.met.T.Table in
    let x = c.args.row.now in
    let old = state g.S.Store c.args.tx.now.conn.now in
    let new = state g.S.Store c.execute.new.tx.conn.now in
    on_ok_weaker c.execute.result (λ ran. is_new t.columns t.place t.tree t.stored t.by t.list t.put laws.ordered
    laws.fits laws.kept laws.held laws.changes laws.spared x old new
    (subst (λ sql. Ran sql (t.stored x) old new) c.insert_text.ensures ran)) (c.execute.ensures.ok clean inside)

pub returns-clause-ran : goal.returns-clause-ran
returns-clause-ran g c clean inside =
    let t = g.T.Table in
    let x = c.args.row.now in
    let old = state g.S.Store c.args.tx.now.conn.now in
    let new = state g.S.Store c.execute.new.tx.conn.now in
    subst (λ sql. OnOk c.execute.result (Ran sql (t.stored x) old new)) c.insert_text.ensures
    (c.execute.ensures.ok clean inside)

pub returns-clause-failed : goal.returns-clause-failed
returns-clause-failed g c clean inside =
    let t = g.T.Table in
    let x = c.args.row.now in
    let old = state g.S.Store c.args.tx.now.conn.now in
    let new = state g.S.Store c.execute.new.tx.conn.now in
    subst (λ sql. IfErr c.execute.result (Failed sql (t.stored x) old new)) c.insert_text.ensures
    (c.execute.ensures.failed clean inside)
