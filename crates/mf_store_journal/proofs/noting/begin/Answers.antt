use Rattle.std.proofs.Common.{arith, subst}
use Rattle.std.proofs.lemmas.Result.{on_ok_weaker}
use Rattle.sqlite.specs.Held.{state}
use Rattle.sqlite.specs.State.{HasCleanDisk}
use Rattle.mf_store_journal.specs.Adding.{MakesJournal, PutsLine}
use Rattle.mf_store_journal.proofs.NotingLemmas.{begins_journal}
use Rattle.mf_store_journal.proofs.noting.begin.Goals as goal

pub returns-clause-ok : goal.returns-clause-ok
returns-clause-ok g c clean inside =
    let old = state g.S.Store c.args.tx.now.conn.now in
    let mid = state g.S.Store c.make_journal.new.tx.conn.now in
    let new = state g.S.Store c.put_line.new.tx.conn.now in
    let early : HasCleanDisk mid = omega (arith, c.put_line.ensures.survives.clean, clean) in
    let makes : MakesJournal old mid = c.in_ok-make_journal.ensures.ok early inside in
    on_ok_weaker c.put_line.result (λ puts. begins_journal c.args.head old mid new makes
    (subst (λ line. PutsLine line mid new) c.beginning_row.ensures puts)) (c.put_line.ensures.ok clean makes.mode)
