use Rattle.std.proofs.Common.{◌≡◌, drop}
use Rattle.mf_lists.specs.Lists.{has_part}
use Rattle.mf_store_lists.proofs.parts.has_part.Given as goal

abbrev pub invariant-loop-start : goal.invariant-loop-start
invariant-loop-start l = has_part l.part l.text ≡ has_part l.part (drop l.start l.text)
