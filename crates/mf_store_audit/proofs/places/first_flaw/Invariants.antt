use Rattle.std.specs.Prelude.{option_copied}
use Rattle.mf_store_audit.proofs.PlaceLemmas.{SaidTo}
use Rattle.mf_store_audit.proofs.places.first_flaw.Given as goal

abbrev pub invariant-loop-flaw : goal.invariant-loop-flaw
invariant-loop-flaw g l =
    g.R.Row.IsInOrder l.setting → SaidTo (λ flaw. ¬ g.R.Row.Breaks l.setting flaw (option_copied l.before) l.row)
    l.flaw-items l.flaw-index
