use Rattle.mf_ledger_play.proofs.HeldLemmas.{HoldsOffices}
use Rattle.mf_ledger_play.proofs.held.hold_loans.Given as goal

abbrev pub invariant-loop-place : goal.invariant-loop-place
invariant-loop-place g l =
    HoldsOffices g.S.InstitutionStore l.listed l.place l.held.items l.fn.store l.store
