use Rattle.std.proofs.Common.{take}
use Rattle.std.specs.List.{AllByRecursion}
use Rattle.mf_lists.specs.declared.lines.ClientLine.{ClientLine}
use Rattle.mf_store_lists.specs.Counted.{IsBetween}
use Rattle.mf_store_lists.proofs.clients.bounds_of.Given as goal

abbrev pub invariant-loop-line : goal.invariant-loop-line
invariant-loop-line l =
    AllByRecursion (λ (line : ClientLine). IsBetween l.bounds line.number) (take l.line-index l.lines)
