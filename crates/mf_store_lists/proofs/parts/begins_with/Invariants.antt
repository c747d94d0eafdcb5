use Rattle.std.proofs.Common.{◌≡◌, drop}
use Rattle.mf_lists.specs.Lists.{begins_with}
use Rattle.mf_store_lists.proofs.parts.begins_with.Given as goal

abbrev pub invariant-loop-place : goal.invariant-loop-place
invariant-loop-place l = begins_with l.part l.text ≡ begins_with (drop l.place l.part) (drop l.place l.text)
