use Rattle.mf_store.proofs.KeptLemmas.{known_asks}
use Rattle.mf_store.proofs.store.Store.list.Goals as goal

pub returns-clause-asks : goal.returns-clause-asks
returns-clause-asks g c =
    rw (← c.self.view_is) (known_asks g.S.Store _ _ _ _ _ c.list_rows.ensures.kept c.list_rows.ensures.gives_up
    c.list_rows.ensures.open)

pub returns-clause-rows : goal.returns-clause-rows
returns-clause-rows g c = rw (← c.self.view_is) (λ clean i s. c.list_rows.ensures.rows clean _ s.serves)
