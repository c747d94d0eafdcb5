use Rattle.std.proofs.Common.{◌≡◌, ◌≤◌, ◌+◌, ◌*◌, ◌^◌, drop}
use Rattle.std.specs.Prelude.{sum_by}
use Rattle.mf_portions.specs.Portions.{figure}
use Rattle.mf_portions.proofs.lines.total.Given as goal

abbrev pub invariant-loop-balances : goal.invariant-loop-balances
invariant-loop-balances l = record {
  sum : l.total + sum_by (figure l.heading l.column) (drop l.balances-index l.loans)
      ≡ sum_by (figure l.heading l.column) l.loans;
  most : l.total ≤ 2 ^ 64 * l.balances-index;
}
