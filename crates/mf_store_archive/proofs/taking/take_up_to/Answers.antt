use Rattle.std.proofs.Common.{ℕ, arith, subst}
use Rattle.std.proofs.lemmas.Result.{on_ok_weaker}
use Rattle.sqlite.specs.Held.{state}
use Rattle.sqlite.specs.State.{HasCleanDisk}
use Rattle.mf_store_archive.specs.Removing.{RemovesUpTo}
use Rattle.mf_store_archive.proofs.TakingLemmas.{takes_out}
use Rattle.mf_store_archive.proofs.taking.take_up_to.Goals as goal

pub returns-clause-ok : goal.returns-clause-ok
returns-clause-ok g c clean inside =
    let old = state g.S.Store c.args.tx.now.conn.now in
    let mid = state g.S.Store c.remove_up_to.new.tx.conn.now in
    let new = state g.S.Store c.put_first.new.tx.conn.now in
    let early : HasCleanDisk mid = omega (arith, c.put_first.ensures.survives.clean, clean) in
    let removes : RemovesUpTo c.args.head.number old mid =
    subst (λ (n : ℕ). RemovesUpTo n old mid) c.in_ok-number.ensures (c.in_ok-remove_up_to.ensures.ok early inside) in
    on_ok_weaker c.put_first.result (λ puts. takes_out c.args.head old mid new removes puts)
    (c.put_first.ensures.ok clean removes.mode)
