use Rattle.std.proofs.Common.{rules}
use Rattle.std.proofs.lemmas.Result.{on_ok_weaker}
use Rattle.sqlite.specs.Held.{state}
use Rattle.mf_store_archive.proofs.FirstLemmas.{puts_first}
use Rattle.mf_store_archive.proofs.removing.put_first.Goals as goal

pub returns-clause-ok : goal.returns-clause-ok
returns-clause-ok g c clean inside =
    on_ok_weaker c.run.result (puts_first c.begin_text.result.now _ c.args.head (state g.S.Store
    c.args.tx.now.conn.now) (state g.S.Store c.run.new.tx.conn.now) c.begin_text.ensures (search rules))
    (c.run.ensures.ok clean inside)
