use Rattle.std.proofs.Common.{◌≡◌, take}
use Rattle.mf_folding.specs.Folding.{without_accents}
use Rattle.mf_folding.proofs.without_accents.Given as goal

abbrev pub invariant-loop-c : goal.invariant-loop-c
invariant-loop-c l = l.kept.items ≡ without_accents (take l.c-index l.all)
