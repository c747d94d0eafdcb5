use Rattle.std.proofs.Common.{◌≡◌, List, Some}
use Rattle.mf_model.specs.Institution.{Institution, JournalLine}
use Rattle.mf_store.specs.Stands.{IsClean, StandsFor, Stays}
use Rattle.mf_store_noted.specs.Kept.{begins_of}
use Rattle.mf_store_lists.proofs.ChangeLemmas.{Looked}
use Rattle.mf_store_lists.proofs.changes.told_from.Given as goal

abbrev pub invariant-pages : goal.invariant-pages
invariant-pages g l = record {
  kept : Stays g.S.Store l.initial.store l.store;
  looked : IsClean g.S.Store l.store → (i : Institution) (lines : List JournalLine)
      → StandsFor g.S.Store l.initial.store i → begins_of l.initial.store.journal ≡ Some l.fn.begins
      → i.journal ≡ Some lines → Looked l.asked l.fn.begins lines l.number (record {
        place = l.place;
        lines = l.lines.items;
      });
}
