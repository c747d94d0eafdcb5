use Rattle.std.proofs.Common.{◌≡◌, ◌↔◌, ◌+◌, drop}
use Rattle.mf_store_sound.specs.Stored.{AllFrom}
use Rattle.mf_store_sound.proofs.numbered.are_numbered.Given as goal

abbrev pub invariant-loop-row : goal.invariant-loop-row
invariant-loop-row g l =
    (l.number ≡ l.row-index)
    × ((of : g.R.NumberedRow.Setting l.owner) → (AllFrom (g.R.NumberedRow.IsNumbered l.owner of) 1 l.rows
    ↔ AllFrom (g.R.NumberedRow.IsNumbered l.owner of) (l.number + 1) (drop l.row-index l.rows)))
