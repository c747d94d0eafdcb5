use Rattle.std.proofs.Common.{◌≡◌, List, Some}
use Rattle.mf_model.specs.Institution.{Institution, JournalLine}
use Rattle.mf_model.specs.Store.{rows_at}
use Rattle.mf_store.specs.Stands.{Stays, StandsFor, IsClean}
use Rattle.mf_store_noted.specs.Kept.{begins_of}
use Rattle.mf_store_lists.proofs.DayLemmas.{CountedTo}
use Rattle.mf_store_lists.proofs.takings.taken_from.Given as goal

abbrev pub invariant-pages : goal.invariant-pages
invariant-pages g l = record {
  kept : Stays g.S.Store l.initial.store l.store;
  counted : IsClean g.S.Store l.store → (i : Institution) (lines : List JournalLine)
      → StandsFor g.S.Store l.initial.store i → begins_of l.initial.store.journal ≡ Some l.fn.begins
      → i.journal ≡ Some lines
      → CountedTo l.office l.day i.catalogue (rows_at l.office i) l.fn.begins lines l.number l.takings.items;
}
