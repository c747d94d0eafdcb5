use Rattle.std.proofs.Common.{◌≡◌, ◌<◌, take, true, IsTrue}
use Rattle.sqlite.specs.State.{HasCleanDisk, KeepsCommit, Survives}
use Rattle.sqlite.specs.Held.{state}
use Rattle.mf_store_sql.specs.Writes.{Serves, AllFit, after_all, Turns}
use Rattle.mf_store_sql.proofs.apply.Given as goal

abbrev pub invariant-loop-write : goal.invariant-loop-write
invariant-loop-write g l = record {
  same : l.tx.conn.ghost_name ≡ l.initial.tx.conn.ghost_name;
  survives : Survives (state g.S.Store l.initial.tx.conn.now) (state g.S.Store l.tx.conn.now) (λ _. ⊥);
  kept : HasCleanDisk (state g.S.Store l.tx.conn.now) → KeepsCommit (state g.S.Store l.initial.tx.conn.now)
      (state g.S.Store l.tx.conn.now);
  mode : HasCleanDisk (state g.S.Store l.tx.conn.now) → (state g.S.Store l.tx.conn.now).in_transaction ≡ true;
  was_open : HasCleanDisk (state g.S.Store l.tx.conn.now) → 0 < l.write-index
      → IsTrue (state g.S.Store l.initial.tx.conn.now).is_open;
  turns : HasCleanDisk (state g.S.Store l.tx.conn.now)
      → Turns (Serves g.W.Write.schema g.W.Write.Holds)
      (AllFit g.W.Write.after g.W.Write.Fits (take l.write-index l.writes))
      (after_all g.W.Write.after (take l.write-index l.writes)) (state g.S.Store l.initial.tx.conn.now).now
      (state g.S.Store l.tx.conn.now).now;
}
