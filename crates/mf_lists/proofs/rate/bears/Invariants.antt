use Rattle.std.proofs.Common.{◌≡◌, ◌<◌, ◌^◌, drop}
use Rattle.mf_lists.specs.Rate.{asked_by_all, bears, is_borne}
use Rattle.mf_lists.proofs.rate.bears.Given as goal

abbrev pub invariant-loop-row : goal.invariant-loop-row
invariant-loop-row l = record {
  same : bears l.rate l.day l.balance (drop l.row-index l.rows) ≡ is_borne l.fn.handed l.fn.day l.rows l.rate;
  to_come : l.to_come ≡ asked_by_all (drop l.row-index l.rows);
  small : l.to_come < 2 ^ 74;
  small_balance : l.balance < 2 ^ 100;
}
