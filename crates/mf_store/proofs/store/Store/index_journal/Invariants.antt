use Rattle.mf_store.specs.Stands.{Stays, IsClean, IsOpen}
use Rattle.mf_store.proofs.store.Store.index_journal.Given as goal

abbrev pub invariant-pages : goal.invariant-pages
invariant-pages g l = record {
  kept : Stays g.S.Store l.initial.self l.self;
  live : IsClean g.S.Store l.self → IsOpen g.S.Store l.initial.self → IsOpen g.S.Store l.self;
}
