use Rattle.std.proofs.lemmas.Result.{IfOk-weaker}
use Rattle.mf_store.proofs.KeptLemmas.{known_asks}
use Rattle.mf_store.proofs.ShownLemmas.{open_by_one}
use Rattle.mf_store.proofs.store.Store.is_last_open.Goals as goal

pub returns-clause-asks : goal.returns-clause-asks
returns-clause-asks g c =
    rw (← c.self.view_is) (known_asks g.S.Store _ _ _ _ _ c.is_principal_open.ensures.kept
    c.is_principal_open.ensures.gives_up c.is_principal_open.ensures.open)

pub returns-clause-value : goal.returns-clause-value
returns-clause-value g c = rw (← c.self.view_is) (λ clean i s l there. IfOk-weaker c.is_principal_open.result _ _
    (λ left open_is yes. open_by_one c.args.account c.args.periods l i s.sound there (open_is yes))
    (rw (c.get-office.ensures.value, c.get.ensures.value) at (c.is_principal_open.ensures.left clean _
    s.serves)))
