use Rattle.std.proofs.Common.{◌≡◌, map, take}
use Rattle.mf_model.specs.Institution.{Institution}
use Rattle.mf_store_values.specs.Arrears.{line_at}
use Rattle.mf_store.specs.Stands.{Stays, StandsFor, IsClean, IsOpen}
use Rattle.mf_store.proofs.store.Store.lines_of_offices.Given as goal

abbrev pub invariant-loop-office : goal.invariant-loop-office
invariant-loop-office g l = record {
  kept : Stays g.S.Store l.initial.self l.self;
  live : IsClean g.S.Store l.self → IsOpen g.S.Store l.initial.self → IsOpen g.S.Store l.self;
  read : IsClean g.S.Store l.self → (i : Institution) → StandsFor g.S.Store l.initial.self i → l.today ≡ i.catalogue.day
      → l.lines.items ≡ map (line_at i) (take l.office-index l.offices);
}
