use Rattle.std.proofs.Common.{◌≡◌, ℕ, List, map, take}
use Rattle.mf_account.specs.declared.settled.SettledPart.{SettledPart}
use Rattle.mf_store_schema.specs.Rows.{share_row}
use Rattle.mf_store_values.specs.Flat.{share_in}
use Rattle.mf_store_values.specs.Kept.{part_told}
use Rattle.mf_store_values.proofs.parts.parts_from.Given as goal

abbrev pub invariant-loop-row : goal.invariant-loop-row
invariant-loop-row l = (office loan : ℕ) (all : List (ℕ × (ℕ × SettledPart)))
    → l.rows ≡ map (λ (item : ℕ × (ℕ × SettledPart)).
    share_row (share_in office loan item)) all → l.parts.items ≡ map part_told (take l.row-index all)
