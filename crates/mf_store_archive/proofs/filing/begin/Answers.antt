use Rattle.std.proofs.Common.{arith, subst}
use Rattle.std.proofs.lemmas.Result.{on_ok_weaker}
use Rattle.sqlite.specs.Held.{state}
use Rattle.sqlite.specs.State.{HasCleanDisk}
use Rattle.mf_store_archive.specs.Appending.{AppendsRow, MakesArchive}
use Rattle.mf_store_archive.proofs.FilingLemmas.{begins_archive}
use Rattle.mf_store_archive.proofs.filing.begin.Goals as goal

pub returns-clause-ok : goal.returns-clause-ok
returns-clause-ok g c clean inside =
    let old = state g.S.Store c.args.tx.now.conn.now in
    let mid = state g.S.Store c.make_archive.new.tx.conn.now in
    let new = state g.S.Store c.append_row.new.tx.conn.now in
    let early : HasCleanDisk mid = omega (arith, c.append_row.ensures.survives.clean, clean) in
    let makes : MakesArchive old mid = c.in_ok-make_archive.ensures.ok early inside in
    on_ok_weaker c.append_row.result (λ puts. begins_archive c.args.head old mid new makes
    (subst (λ row. AppendsRow row mid new) c.beginning_row.ensures puts)) (c.append_row.ensures.ok clean makes.mode)
