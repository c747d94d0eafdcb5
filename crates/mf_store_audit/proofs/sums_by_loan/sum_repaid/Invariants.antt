use Rattle.std.proofs.Common.{◌≡◌, ◌≤◌, ◌*◌, ◌^◌, take}
use Rattle.std.specs.Prelude.{sum_by}
use Rattle.mf_account.proofs.StatusLemmas.{repaid_by}
use Rattle.mf_store_audit.proofs.sums_by_loan.sum_repaid.Given as goal

abbrev pub invariant-loop-entry : goal.invariant-loop-entry
invariant-loop-entry l = record {
  so_far : l.total ≡ sum_by repaid_by (take l.entry-index l.entries);
  most : l.total ≤ l.entry-index * 2 ^ 64;
}
