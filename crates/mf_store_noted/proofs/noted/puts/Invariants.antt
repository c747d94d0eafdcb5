use Rattle.std.proofs.Common.{take}
use Rattle.mf_store_noted.specs.Puts.{ArePuts}
use Rattle.mf_store_noted.proofs.noted.puts.Given as goal

abbrev pub invariant-loop-write : goal.invariant-loop-write
invariant-loop-write l = ArePuts l.noted.items (take l.write-index l.writes)
