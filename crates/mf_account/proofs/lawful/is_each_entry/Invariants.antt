use Rattle.std.proofs.Common.{ℕ, ◌<◌}
use Rattle.mf_account.specs.Loan.{IsEntry}
use Rattle.mf_account.specs.Standing.{entry_at}
use Rattle.mf_account.proofs.lawful.is_each_entry.Given as goal

abbrev pub invariant-loop-k : goal.invariant-loop-k
invariant-loop-k l = (i : ℕ) → i < l.k → IsEntry l.periods l.day (entry_at l.entries i)
