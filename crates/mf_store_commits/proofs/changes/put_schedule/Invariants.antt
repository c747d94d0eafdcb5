use Rattle.std.proofs.Common.{◌≡◌, ◌++◌, take}
use Rattle.mf_store_commits.specs.ChangeWrites.{schedule_put}
use Rattle.mf_store_values.specs.Flat.{numbered_from}
use Rattle.mf_store_commits.proofs.changes.put_schedule.Given as goal

abbrev pub invariant-loop-row : goal.invariant-loop-row
invariant-loop-row l = record {
  number : l.number ≡ l.row-index;
  writes : l.writes.items ≡ l.initial.writes.items ++ schedule_put l.office l.loan (numbered_from (λ n row. (n, row)) 1
      (take l.row-index l.rows));
}
