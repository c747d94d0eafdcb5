use Rattle.mf_store.proofs.BeginLemmas.{keeps_it}
use Rattle.mf_store.proofs.store.Store.begin_journal.Goals as goal

pub returns-then-keeps_journal : goal.returns-then-keeps_journal
returns-then-keeps_journal g c =
    keeps_it g.S.Store c.args.self.now (c.keeps_journal.ensures.0 c.if-keeps_journal.true)
