use Rattle.std.proofs.Common.{◌≡◌, sum, take}
use Rattle.mf_account.proofs.statuses.sum_of.Given as goal

abbrev pub invariant-loop-amount : goal.invariant-loop-amount
invariant-loop-amount l = l.total ≡ sum (take l.amount-index l.amounts)
