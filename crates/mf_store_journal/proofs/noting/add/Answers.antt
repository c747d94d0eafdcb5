use Rattle.std.proofs.lemmas.Result.{on_ok_weaker}
use Rattle.sqlite.specs.Held.{state}
use Rattle.mf_store_journal.proofs.NotingLemmas.{adds_line}
use Rattle.mf_store_journal.proofs.noting.add.Goals as goal

pub returns-clause-ok : goal.returns-clause-ok
returns-clause-ok g c clean inside =
    on_ok_weaker c.put_line.result (adds_line c.args.kept (state g.S.Store c.args.tx.now.conn.now)
    (state g.S.Store c.put_line.new.tx.conn.now)) (c.put_line.ensures.ok clean inside)
