use Rattle.std.proofs.lemmas.Result.{on_ok_weaker}
use Rattle.sqlite.specs.Held.{state}
use Rattle.mf_store_sql.proofs.MadeNumberedLemmas.{makes_numbered}
use Rattle.mf_store_sql.proofs.numbered.make_numbered.Goals as goal

pub returns-clause-ok : goal.returns-clause-ok
returns-clause-ok g c clean inside =
    on_ok_weaker c.run.result (makes_numbered c.args.text.now (state g.S.Store c.args.tx.now.conn.now)
    (state g.S.Store c.run.new.tx.conn.now)) (c.run.ensures.ok clean inside)
