use Rattle.mf_ledger_play.proofs.OpeningLemmas.{OpensOffices}
use Rattle.mf_ledger_play.proofs.opening.opening_at.Given as goal

abbrev pub invariant-loop-place : goal.invariant-loop-place
invariant-loop-place g l =
    OpensOffices g.S.InstitutionStore l.listed l.counts.products l.fn.day l.place l.opening.cash.items
    l.opening.added.items l.fn.store l.store
