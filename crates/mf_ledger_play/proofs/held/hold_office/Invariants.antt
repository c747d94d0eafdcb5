use Rattle.mf_ledger_play.proofs.HeldLemmas.{HoldsSome}
use Rattle.mf_ledger_play.proofs.held.hold_office.Given as goal

abbrev pub invariant-loop-place : goal.invariant-loop-place
invariant-loop-place g l =
    HoldsSome g.S.InstitutionStore l.fn.office l.place-end l.place l.fn.held.items l.held.items l.fn.store l.store
