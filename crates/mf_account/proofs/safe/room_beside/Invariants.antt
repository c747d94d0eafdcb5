use Rattle.std.proofs.Common.{◌≡◌, ◌+◌, take}
use Rattle.mf_account.specs.Told.{settled_amount}
use Rattle.mf_account.proofs.safe.room_beside.Given as goal

abbrev pub invariant-loop-part : goal.invariant-loop-part
invariant-loop-part l = l.left + settled_amount (take l.part-index l.parts) ≡ l.fn.room
