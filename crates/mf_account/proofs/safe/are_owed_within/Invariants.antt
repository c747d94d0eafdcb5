use Rattle.std.proofs.Common.{ℕ, ◌<◌, ◌≤◌}
use Rattle.mf_alloc.specs.Sums.{Instalment}
use Rattle.mf_account.specs.Account.{sum_at}
use Rattle.mf_account.specs.Safe.{most_kept}
use Rattle.mf_account.proofs.safe.are_owed_within.Given as goal

abbrev pub invariant-loop-p : goal.invariant-loop-p
invariant-loop-p l = (q : ℕ) → q < l.p → sum_at (λ (row : Instalment). row.owed) q l.rows ≤ most_kept
