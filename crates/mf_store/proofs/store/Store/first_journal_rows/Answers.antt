use Rattle.mf_store.proofs.JournalKept.{keeps_rows}
use Rattle.mf_store.proofs.KeptLemmas.{known_asks}
use Rattle.mf_store.proofs.store.Store.first_journal_rows.Goals as goal

pub returns-clause-asks : goal.returns-clause-asks
returns-clause-asks g c =
    rw (← c.self.view_is) (known_asks g.S.Store _ _ _ _ _ c.journal_rows_after.ensures.kept
    c.journal_rows_after.ensures.gives_up c.journal_rows_after.ensures.open)

pub returns-clause-rows : goal.returns-clause-rows
returns-clause-rows g c =
    rw (← c.self.view_is) (λ clean i begins lines s begun are. c.journal_rows_after.ensures.rows clean _
    (keeps_rows g.S.Store _ i begins lines s begun are))
