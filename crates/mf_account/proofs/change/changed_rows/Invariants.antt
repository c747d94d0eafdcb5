use Rattle.mf_account.specs.Change.{AreThose, HasOtherRow}
use Rattle.mf_account.proofs.change.changed_rows.Given as goal

abbrev pub invariant-loop-k : goal.invariant-loop-k
invariant-loop-k l = record {
  those : AreThose l.k (HasOtherRow l.before l.after) l.changed.items;
}
