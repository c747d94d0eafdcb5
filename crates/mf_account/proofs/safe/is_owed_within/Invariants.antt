use Rattle.std.proofs.Common.{◌≡◌, ◌+◌, take}
use Rattle.mf_alloc.specs.Sums.{Instalment}
use Rattle.mf_account.specs.Account.{sum_at}
use Rattle.mf_account.specs.Safe.{most_kept}
use Rattle.mf_account.proofs.safe.is_owed_within.Given as goal

abbrev pub invariant-loop-row : goal.invariant-loop-row
invariant-loop-row l = l.room + sum_at (λ (row : Instalment). row.owed) l.p (take l.row-index l.rows) ≡ most_kept
