use Rattle.std.proofs.Common.{◌∙◌}
use Rattle.std.proofs.lemmas.Result.{IfOk-weaker}
use Rattle.mf_store.proofs.KeptLemmas.{known_asks}
use Rattle.mf_store.proofs.store.Store.find.Goals as goal

pub returns-clause-asks : goal.returns-clause-asks
returns-clause-asks g c =
    rw (← c.self.view_is) (known_asks g.S.Store _ _ _ _ _ c.find_row.ensures.kept c.find_row.ensures.gives_up
    c.find_row.ensures.open)

pub returns-clause-value : goal.returns-clause-value
returns-clause-value g c = rw (← c.self.view_is) (λ clean i s. IfOk-weaker c.find_row.result _ _ (λ row is. is
    ∙ g.met.T.InstitutionRow.looked_up c.args.key _ i s.sound) (c.find_row.ensures.row clean _ s.serves))
