use Rattle.std.proofs.Common.{◌≡◌, ◌++◌}
use Rattle.std.specs.List.{flat_map, range_with_len}
use Rattle.mf_ledger.specs.Adjusting.{adjusting_on}
use Rattle.mf_ledger.specs.Opening.{opening_on}
use Rattle.mf_ledger_play.specs.Opening.{accrued_with, moving, sums_with}
use Rattle.mf_ledger_play.proofs.opening.open_products.Given as goal

abbrev pub invariant-loop-place : goal.invariant-loop-place
invariant-loop-place l = record {
  cash : l.opening.cash.items ≡ l.initial.opening.cash.items ++ moving (flat_map
      (λ product. opening_on l.fn.office product (sums_with product l.states)) (range_with_len 1 l.place));
  added : l.opening.added.items ≡ l.initial.opening.added.items ++ moving (flat_map
      (λ product. adjusting_on l.fn.office product (accrued_with product l.states)) (range_with_len 1 l.place));
}
