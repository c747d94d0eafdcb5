use Rattle.sqlite.specs.Held.{state}
use Rattle.mf_store_journal.proofs.CallLemmas.{adds, left_itself}
use Rattle.mf_store_journal.proofs.adding.add_line.Goals as goal

pub returns-in_default-clause-err : goal.returns-in_default-clause-err
returns-in_default-clause-err g c clean inside = left_itself (state g.S.Store c.args.tx.now.conn.now)

pub returns-in-Ok-clause-added : goal.returns-in-Ok-clause-added
returns-in-Ok-clause-added g c clean inside =
    adds c.args.head c.args.row c.in-Some.next (state g.S.Store c.args.tx.now.conn.now)
    (state g.S.Store c.put_line.new.tx.conn.now) c.in-Some.ensures.added (c.in-Ok.ensures.ok clean inside)
