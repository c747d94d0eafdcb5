use Rattle.std.proofs.Common.{◌≡◌, ℕ, Bor, List, map}
use Rattle.std.specs.List.{filter_map}
use Rattle.mf_ledger.specs.Names.{name_in}
use Rattle.mf_ledger.proofs.names.Names.read.Given as goal

abbrev pub invariant-loop-line : goal.invariant-loop-line
invariant-loop-line l = l.given.items ≡ filter_map name_in (map (λ (x : Bor (List ℕ)). x.now) l.yielded)
