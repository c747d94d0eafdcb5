use Rattle.std.proofs.Common.{rules}
use Rattle.std.proofs.lemmas.Result.{on_ok_weaker}
use Rattle.sqlite.specs.Held.{state}
use Rattle.mf_store_archive.proofs.RemovingLemmas.{removes_up_to}
use Rattle.mf_store_archive.proofs.removing.remove_up_to.Goals as goal

pub returns-clause-ok : goal.returns-clause-ok
returns-clause-ok g c clean inside =
    on_ok_weaker c.run.result (removes_up_to c.remove_text.result.now _ c.args.number (state g.S.Store
    c.args.tx.now.conn.now) (state g.S.Store c.run.new.tx.conn.now) c.remove_text.ensures (search rules))
    (c.run.ensures.ok clean inside)
