use Rattle.std.proofs.Common.{rules}
use Rattle.std.proofs.lemmas.Result.{on_ok_weaker}
use Rattle.sqlite.specs.Held.{state}
use Rattle.mf_store_archive.proofs.FilingLemmas.{appends_row}
use Rattle.mf_store_archive.proofs.filing.append_row.Goals as goal

pub returns-clause-ok : goal.returns-clause-ok
returns-clause-ok g c clean inside =
    on_ok_weaker c.append.result (appends_row c.append_text.result.now _ c.args.kept (state g.S.Store
    c.args.tx.now.conn.now) (state g.S.Store c.append.new.tx.conn.now) c.append_text.ensures (search rules))
    (c.append.ensures.ok clean inside)
