use Rattle.mf_store_audit.proofs.EntryFlawLemmas.{CanOutlast}
use Rattle.mf_store_audit.proofs.PlaceLemmas.{SaidTo}
use Rattle.mf_store_audit.proofs.seals.is_not_last.Given as goal

abbrev pub invariant-loop-other : goal.invariant-loop-other
invariant-loop-other l = SaidTo (λ other. ¬ CanOutlast other l.row) l.other-items l.other-index
