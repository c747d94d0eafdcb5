use Rattle.std.proofs.Common.{◌≡◌, ◌-◌, take, map, slice_index}
use Rattle.mf_account.specs.declared.settled.SettledPart.{SettledPart}
use Rattle.mf_account.proofs.replay.parts_placed.Given as goal

abbrev pub invariant-loop-part : goal.invariant-loop-part
invariant-loop-part l = l.placed.items ≡ map (λ (s : SettledPart). record {
  place = slice_index l.places (s.seq - 1);
  part = s;
}) (take l.part-index l.settled)
