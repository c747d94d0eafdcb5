use Rattle.std.proofs.Common.{rules}
use Rattle.std.proofs.lemmas.Result.{on_ok_weaker}
use Rattle.sqlite.specs.Held.{state}
use Rattle.mf_store_sql.proofs.CompareLemmas.{bound_number}
use Rattle.mf_store_schema.specs.Rows.{product_row}
use Rattle.mf_store_schema.proofs.CallLemmas.{ran_with, failed_row}
use Rattle.mf_store_schema.proofs.products.ProductRowTable.execute.Goals as goal

pub returns-clause-ok : goal.returns-clause-ok
returns-clause-ok g c clean inside =
    on_ok_weaker c.run.result (ran_with c.args.sql.now (state g.S.Store c.args.tx.now.conn.now)
    (state g.S.Store c.run.new.tx.conn.now) _ (product_row c.args.self.now) (search (rules, bound_number)))
    (c.run.ensures.ok clean inside)

pub returns-clause-failed : goal.returns-clause-failed
returns-clause-failed g c clean inside =
    failed_row c.run.result c.args.sql.now (state g.S.Store c.args.tx.now.conn.now)
    (state g.S.Store c.run.new.tx.conn.now) _ (product_row c.args.self.now) (search (rules, bound_number))
    (c.run.ensures.failed clean inside)
