use Rattle.std.proofs.Common.{◌≡◌, take}
use Rattle.mf_store_audit.specs.Sums.{Fit, sums_of_all}
use Rattle.mf_store_audit.proofs.totals.total.Given as goal

abbrev pub invariant-loop-office : goal.invariant-loop-office
invariant-loop-office l = record {
  all : l.all ≡ sums_of_all (take l.office-index l.offices);
  room : Fit l.all;
}
