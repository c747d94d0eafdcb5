use Rattle.std.proofs.Common.{◌≡◌, take}
use Rattle.mf_account.specs.Standing.{places_from}
use Rattle.mf_account.proofs.replay.standing_places.Given as goal

abbrev pub invariant-loop-k : goal.invariant-loop-k
invariant-loop-k l = l.places.items ≡ places_from 0 (take l.k l.entries)
