use Rattle.std.proofs.Common.{[], rules}
use Rattle.std.proofs.lemmas.Result.{on_ok_weaker, on_err_weaker}
use Rattle.sqlite.specs.Held.{state}
use Rattle.mf_store_journal.proofs.CallLemmas.{puts, leaves, left_itself}
use Rattle.mf_store_journal.proofs.adding.put_line.Goals as goal

pub returns-in_default-clause-err : goal.returns-in_default-clause-err
returns-in_default-clause-err g c clean inside = left_itself (state g.S.Store c.args.tx.now.conn.now)

pub returns-clause-ok : goal.returns-clause-ok
returns-clause-ok g c clean inside =
    on_ok_weaker c.append.result (puts c.put_text.result.now _ c.args.kept (state g.S.Store c.args.tx.now.conn.now)
    (state g.S.Store c.append.new.tx.conn.now) c.put_text.ensures (search rules)) (c.append.ensures.ok clean inside)

pub returns-clause-err : goal.returns-clause-err
returns-clause-err g c clean inside =
    on_err_weaker c.append.result (leaves c.put_text.result.now [] (state g.S.Store c.args.tx.now.conn.now)
    (state g.S.Store c.append.new.tx.conn.now) c.put_text.ensures) (c.append.ensures.err clean inside)
