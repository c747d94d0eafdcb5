use Rattle.std.proofs.Common.{arith}
use Rattle.mf_store.proofs.KeptLemmas.{learnt_asks, clean_before, tells_day}
use Rattle.mf_store.proofs.store.Store.business_day.Goals as goal

pub returns-clause-asks : goal.returns-clause-asks
returns-clause-asks g c =
    learnt_asks g.S.Store _ _ _ _ c.in_ok-found.ensures.asks.kept (λ clean up.
    c.in_ok-found.ensures.asks.stays_open clean) c.learn.ensures.same c.learn.ensures.tables
    c.learn.ensures.journal
    (λ clean i s. tells_day c.in_ok-day.day i (c.in_ok-day.ensures.day _ i.catalogue.day
    (let bound = s.sound.catalogue.day in omega arith) (c.in_ok-found.ensures.value clean i s)))

pub returns-clause-value : goal.returns-clause-value
returns-clause-value g c clean i s =
    let before = clean_before g.S.Store _ _ c.learn.ensures.tables clean in
    c.in_ok-day.ensures.day _ i.catalogue.day (let bound = s.sound.catalogue.day in omega arith)
    (c.in_ok-found.ensures.value before i s)

pub returns-in-Some-clause-value : goal.returns-in-Some-clause-value
returns-in-Some-clause-value g c clean i s = c.in-Some.ensures i (c.known.ensures i s)
