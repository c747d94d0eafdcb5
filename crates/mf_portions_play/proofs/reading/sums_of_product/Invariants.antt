use Rattle.std.proofs.Common.{◌≡◌, ◌++◌, drop}
use Rattle.mf_portions_play.specs.Reading.{held_balances}
use Rattle.mf_portions_play.proofs.reading.sums_of_product.Given as goal

abbrev pub invariant-loop-loan : goal.invariant-loop-loan
invariant-loop-loan l =
    l.loans.items ++ held_balances l.product (drop l.loan-index l.held) ≡ held_balances l.product l.held
