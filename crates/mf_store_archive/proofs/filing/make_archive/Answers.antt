use Rattle.std.proofs.lemmas.Result.{on_ok_weaker}
use Rattle.sqlite.specs.Held.{state}
use Rattle.mf_store_archive.proofs.FilingLemmas.{makes_archive}
use Rattle.mf_store_archive.proofs.filing.make_archive.Goals as goal

pub returns-clause-ok : goal.returns-clause-ok
returns-clause-ok g c clean inside =
    on_ok_weaker c.make_numbered.result (makes_archive c.create_text.result.now (state g.S.Store
    c.args.tx.now.conn.now) (state g.S.Store c.make_numbered.new.tx.conn.now) c.create_text.ensures)
    (c.make_numbered.ensures.ok clean inside)
