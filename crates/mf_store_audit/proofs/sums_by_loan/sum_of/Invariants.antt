use Rattle.std.proofs.Common.{◌≡◌, ◌≤◌, ◌*◌, ◌^◌, sum, take}
use Rattle.mf_store_audit.proofs.sums_by_loan.sum_of.Given as goal

abbrev pub invariant-loop-amount : goal.invariant-loop-amount
invariant-loop-amount l = record {
  so_far : l.total ≡ sum (take l.amount-index l.amounts);
  most : l.total ≤ l.amount-index * 2 ^ 64;
}
