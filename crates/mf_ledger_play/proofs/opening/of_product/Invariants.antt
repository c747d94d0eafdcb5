use Rattle.std.proofs.Common.{◌≡◌, ◌++◌, drop}
use Rattle.mf_ledger_play.specs.Opening.{accrued_with, sums_with}
use Rattle.mf_ledger_play.proofs.opening.of_product.Given as goal

abbrev pub invariant-loop-state : goal.invariant-loop-state
invariant-loop-state l = record {
  sums : l.sums.items ++ sums_with l.product (drop l.state-index l.states) ≡ sums_with l.product l.states;
  accrued : l.accrued.items ++ accrued_with l.product (drop l.state-index l.states) ≡ accrued_with l.product l.states;
}
