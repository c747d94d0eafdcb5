use Rattle.std.proofs.Common.{◌≡◌, ◌≤◌, not, length, take}
use Rattle.std.specs.Prelude.{filter}
use Rattle.mf_account.specs.declared.entry.Entry.{Entry}
use Rattle.mf_store_audit.proofs.sums_by_loan.count_entries.Given as goal

abbrev pub invariant-loop-entry : goal.invariant-loop-entry
invariant-loop-entry l = record {
  standing : l.standing ≡ length (filter (λ (e : Entry). not e.reversed) (take l.entry-index l.entries));
  reversed : l.reversed ≡ length (filter (λ (e : Entry). e.reversed) (take l.entry-index l.entries));
  most_standing : l.standing ≤ l.entry-index;
  most_reversed : l.reversed ≤ l.entry-index;
}
