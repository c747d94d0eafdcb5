use Rattle.std.proofs.Common.{◌≡◌, ◌*◌, ◌^◌, drop}
use Rattle.std.specs.Prelude.{pos, neg_ℤ, ◌+ℤ◌, ◌≤ℤ◌}
use Rattle.mf_ledger.specs.Accrual.{accrued_on}
use Rattle.mf_ledger.specs.Books.{signed_sum}
use Rattle.mf_ledger.proofs.adjusting.total.Given as goal

abbrev pub invariant-loop-sums : goal.invariant-loop-sums
invariant-loop-sums l = record {
  sum : l.total +ℤ signed_sum (accrued_on l.title) (drop l.sums-index l.loans)
      ≡ signed_sum (accrued_on l.title) l.loans;
  least : neg_ℤ (pos (3 * 2 ^ 64 * l.sums-index)) ≤ℤ l.total;
  most : l.total ≤ℤ pos (3 * 2 ^ 64 * l.sums-index);
}
