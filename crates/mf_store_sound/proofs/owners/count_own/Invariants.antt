use Rattle.std.proofs.Common.{◌≡◌, ◌+◌, ℕ, drop}
use Rattle.std.specs.Fn.{FnReturnsAt}
use Rattle.mf_store_values.specs.Parts.{own_count}
use Rattle.mf_store_sound.proofs.owners.count_own.Given as goal

abbrev pub invariant-loop-row : goal.invariant-loop-row
invariant-loop-row g l =
    (l.count ≡ l.row-index)
    × ((of : _ → ℕ) → ((row : _) (n : ℕ) → FnReturnsAt g.F.Fn l.owner_of row n → n ≡ of row)
    → own_count of l.owner l.rows ≡ l.row-index + own_count of l.owner (drop l.row-index l.rows))
