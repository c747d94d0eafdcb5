use Rattle.std.proofs.Common.{◌≡◌, ◌++◌, List, map, take}
use Rattle.mf_journal.specs.Chain.{line_of_row}
use Rattle.mf_lists.specs.declared.takings.Movement.{Movement}
use Rattle.mf_lists.specs.Takings.{movements_on, takings_of}
use Rattle.mf_model.specs.Institution.{Institution}
use Rattle.mf_model.specs.Store.{rows_at}
use Rattle.mf_office.specs.declared.caller.Caller.{Caller}
use Rattle.mf_store.specs.Stands.{Stays, StandsFor, IsClean, IsOpen}
use Rattle.mf_store_lists.proofs.takings.put_lines.Given as goal

abbrev pub invariant-loop-at : goal.invariant-loop-at
invariant-loop-at g l = record {
  kept : Stays g.S.Store l.initial.store l.store;
  live : IsClean g.S.Store l.store → IsOpen g.S.Store l.initial.store → IsOpen g.S.Store l.store;
  more : IsClean g.S.Store l.store → (i : Institution) → StandsFor g.S.Store l.initial.store i
      → (before : List (Caller × Movement)) → l.initial.takings.items ≡ takings_of before
      → l.takings.items ≡ takings_of (before ++ movements_on l.office l.day i.catalogue (rows_at l.office i)
      (map line_of_row (take l.at l.rows)));
}
