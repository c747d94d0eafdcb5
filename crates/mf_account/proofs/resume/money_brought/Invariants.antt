use Rattle.std.proofs.Common.{◌≡◌, take}
use Rattle.std.specs.Prelude.{sum_by}
use Rattle.mf_account.specs.declared.entry.Entry.{Entry}
use Rattle.mf_account.specs.Kinds.{money_in}
use Rattle.mf_account.specs.Standing.{entries_at}
use Rattle.mf_account.proofs.resume.money_brought.Given as goal

abbrev pub invariant-loop-k : goal.invariant-loop-k
invariant-loop-k l = record {
  money : l.money ≡ sum_by (λ (e : Entry). money_in e.kind e.amount) (entries_at l.entries (take l.k l.order));
}
