use Rattle.std.proofs.Common.{ℕ, ◌<◌, ◌≤◌}
use Rattle.mf_account.specs.Standing.{entry_at}
use Rattle.mf_account.proofs.lawful.are_days_by.Given as goal

abbrev pub invariant-loop-k : goal.invariant-loop-k
invariant-loop-k l = (i : ℕ) → i < l.k → (entry_at l.entries i).day ≤ l.day
