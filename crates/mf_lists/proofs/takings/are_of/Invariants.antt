use Rattle.std.proofs.Common.{◌≡◌, false, take}
use Rattle.std.specs.List.{list_any}
use Rattle.mf_lists.specs.declared.takings.Taking.{Taking}
use Rattle.mf_lists.specs.Takings.{is_same}
use Rattle.mf_lists.proofs.takings.are_of.Given as goal

abbrev pub invariant-loop-taking : goal.invariant-loop-taking
invariant-loop-taking l = list_any (λ (t : Taking). is_same l.staff t.staff) (take l.taking-index l.takings) ≡ false
