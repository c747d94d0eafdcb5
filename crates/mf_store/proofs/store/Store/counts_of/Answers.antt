use Rattle.mf_store.proofs.KeptLemmas.{learnt_asks, clean_before, tells_counts}
use Rattle.mf_store.proofs.store.Store.counts_of.Goals as goal

pub returns-clause-asks : goal.returns-clause-asks
returns-clause-asks g c =
    learnt_asks g.S.Store _ _ _ _ c.in_ok-counts.ensures.asks.kept
    c.in_ok-counts.ensures.asks.stays_open c.learn-2.ensures.same c.learn-2.ensures.tables
    c.learn-2.ensures.journal
    (λ clean i s. tells_counts c.args.office c.in_ok-counts.counts i (c.in_ok-counts.ensures.value clean i s))

pub returns-clause-value : goal.returns-clause-value
returns-clause-value g c clean i s = c.in_ok-counts.ensures.value (clean_before g.S.Store _ _ c.learn-2.ensures.tables
    clean) i s
