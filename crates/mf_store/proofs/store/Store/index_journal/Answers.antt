use Rattle.mf_store.proofs.KeptLemmas.{stays_same, stays_then}
use Rattle.mf_store.proofs.store.Store.index_journal.Goals as goal

pub pages-init : goal.pages-init
pages-init g c = record { kept = stays_same g.S.Store _; live = λ clean opened. opened }

pub pages-preserved : goal.pages-preserved
pages-preserved g c =
    let now = c.in_ok-more.ensures in
    record {
      kept = stays_then g.S.Store _ _ _ c.pages.invariant.kept now.kept;
      live = λ clean opened. now.stays_open clean (c.pages.invariant.live (now.kept.premise clean) opened);
    }
