use Rattle.std.proofs.Common.{◌≡◌, false, List}
use Rattle.sqlite.specs.Order.{Row}
use Rattle.sqlite.specs.State.{HasCleanDisk, Survives}
use Rattle.sqlite.specs.Held.{state}
use Rattle.mf_store_values.specs.Folding.{IsKept}
use Rattle.mf_store_values.proofs.FoldLemmas.{Tells}
use Rattle.mf_store_values.proofs.RowsLemmas.{SoFar}
use Rattle.mf_store_values.proofs.fold.fold_instalments.Given as goal

abbrev pub invariant-rows : goal.invariant-rows
invariant-rows g l = record {
  same_reference : l.rows.conn.ghost_name ≡ l.initial.rows.conn.ghost_name;
  survives : Survives (state g.S.Store l.initial.rows.conn.now) (state g.S.Store l.rows.conn.now) (λ _. ⊥);
  kept : HasCleanDisk (state g.S.Store l.rows.conn.now) → IsKept g.S.Store l.initial.rows.conn.now l.rows.conn.now;
  mode : l.initial.rows.conn.now.in_transaction ≡ false → l.rows.conn.now.in_transaction ≡ false;
  taken : List Row;
  given : SoFar g.S.Store l.initial.rows.conn.now l.rows.conn.now taken;
  tells : Tells l.day taken l.initial.line l.read l.line;
}
