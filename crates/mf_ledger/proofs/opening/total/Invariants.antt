use Rattle.std.proofs.Common.{◌≡◌, ◌*◌, ◌^◌, drop}
use Rattle.std.specs.Prelude.{pos, neg_ℤ, ◌+ℤ◌, ◌≤ℤ◌}
use Rattle.mf_ledger.specs.Books.{amount_on, signed_sum}
use Rattle.mf_ledger.proofs.opening.total.Given as goal

abbrev pub invariant-loop-sums : goal.invariant-loop-sums
invariant-loop-sums l = record {
  sum : l.total +ℤ signed_sum (amount_on l.title) (drop l.sums-index l.loans) ≡ signed_sum (amount_on l.title) l.loans;
  least : neg_ℤ (pos (2 ^ 65 * l.sums-index)) ≤ℤ l.total;
  most : l.total ≤ℤ pos (2 ^ 65 * l.sums-index);
}
