use Rattle.std.proofs.Common.{◌≡◌, ◌≤◌, ◌^◌, take}
use Rattle.mf_arrears.specs.Report.{total_of}
use Rattle.mf_arrears.proofs.report.Totals.of.Given as goal

abbrev pub invariant-loop-office : goal.invariant-loop-office
invariant-loop-office l = record {
  all : l.all ≡ total_of (take l.office-index l.lines);
  few : l.all.loans ≤ 10 ^ 10;
}
