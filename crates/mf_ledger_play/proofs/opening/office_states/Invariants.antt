use Rattle.mf_ledger_play.proofs.OpeningLemmas.{ReadSome}
use Rattle.mf_ledger_play.proofs.opening.office_states.Given as goal

abbrev pub invariant-loop-place : goal.invariant-loop-place
invariant-loop-place g l =
    ReadSome g.S.InstitutionStore l.fn.office l.fn.day l.place-end l.place l.states.items l.fn.store l.store
