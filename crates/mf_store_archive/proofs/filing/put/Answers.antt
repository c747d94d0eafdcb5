use Rattle.std.proofs.lemmas.Result.{on_ok_weaker}
use Rattle.sqlite.specs.Held.{state}
use Rattle.mf_store_archive.proofs.FilingLemmas.{puts_row}
use Rattle.mf_store_archive.proofs.filing.put.Goals as goal

pub returns-clause-ok : goal.returns-clause-ok
returns-clause-ok g c clean inside =
    on_ok_weaker c.append_row.result (puts_row c.args.kept (state g.S.Store c.args.tx.now.conn.now)
    (state g.S.Store c.append_row.new.tx.conn.now)) (c.append_row.ensures.ok clean inside)
