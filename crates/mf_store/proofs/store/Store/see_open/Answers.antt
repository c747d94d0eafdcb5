use Rattle.mf_store.proofs.KeptLemmas.{known_asks}
use Rattle.mf_store.proofs.store.Store.see_open.Goals as goal

pub returns : goal.returns
returns g c =
    rw (← c.self.view_is) (known_asks g.S.Store _ _ _ _ _ c.see_open.ensures.kept c.see_open.ensures.gives_up
    c.see_open.ensures.open)
