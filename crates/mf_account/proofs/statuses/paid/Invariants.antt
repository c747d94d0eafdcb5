use Rattle.std.proofs.Common.{◌≡◌, take}
use Rattle.mf_account.proofs.StatusLemmas.{paid_of}
use Rattle.mf_account.proofs.statuses.paid.Given as goal

abbrev pub invariant-loop-row : goal.invariant-loop-row
invariant-loop-row l = l.total ≡ paid_of (take l.row-index l.rows)
