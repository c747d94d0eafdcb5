use Rattle.std.proofs.Common.{◌≡◌, ◌-◌, ◌*◌, ◌≤◌, ◌^◌, map, vec_len}
use Rattle.std.specs.List.{range_with_len}
use Rattle.mf_schedule.specs.Fresh.{instalment_of}
use Rattle.mf_schedule.specs.Plan.{balance_of, interest_of}
use Rattle.mf_schedule.proofs.GraceLemmas.{held_before}
use Rattle.mf_schedule.proofs.schedule.fresh.Given as goal

abbrev pub invariant-loop-i : goal.invariant-loop-i
invariant-loop-i l = record {
  made : l.rows.items ≡ map (instalment_of l.terms l.principal l.n l.day) (range_with_len 1 (l.i - 1));
  count : vec_len l.rows ≡ l.i - 1;
  left : l.balance ≡ balance_of l.terms l.principal l.n l.i;
  back : l.held ≡ held_before l.terms.interest_grace (interest_of l.terms l.principal l.n) l.i;
  small : l.held ≤ 4 * 10 ^ 15 * l.i;
}
