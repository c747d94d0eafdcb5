use Rattle.std.proofs.Common.{◌≡◌, ◌++◌, map, drop}
use Rattle.mf_store_values.specs.Flat.{share_in}
use Rattle.mf_store_values.specs.Kept.{placed_from}
use Rattle.mf_store_values.proofs.shares.add_placed.Given as goal

abbrev pub invariant-loop-part : goal.invariant-loop-part
invariant-loop-part l =
    l.initial.made.items ++ map (share_in l.office l.loan) (placed_from 0 0 l.parts) ≡ l.made.items
    ++ map (share_in l.office l.loan) (placed_from l.seq l.place (drop l.part-index l.parts))
