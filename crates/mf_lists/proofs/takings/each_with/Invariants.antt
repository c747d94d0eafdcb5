use Rattle.std.proofs.Common.{◌≡◌, map, take}
use Rattle.mf_lists.specs.Takings.{with_own}
use Rattle.mf_lists.proofs.takings.each_with.Given as goal

abbrev pub invariant-loop-taking : goal.invariant-loop-taking
invariant-loop-taking l = l.more.items ≡ map (with_own l.staff l.movement) (take l.taking-index l.takings)
