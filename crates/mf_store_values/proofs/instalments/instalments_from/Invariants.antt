use Rattle.std.proofs.Common.{◌≡◌, ℕ, List, map, take}
use Rattle.std.specs.List.{AllByRecursion}
use Rattle.mf_alloc.specs.Sums.{Instalment, IsWhole, AreWhole, AreWithin}
use Rattle.mf_store_schema.specs.Rows.{instalment_row}
use Rattle.mf_store_values.specs.Flat.{instalment_in}
use Rattle.mf_store_values.proofs.instalments.instalments_from.Given as goal

abbrev pub invariant-loop-row : goal.invariant-loop-row
invariant-loop-row l = record {
  rows : (office loan : ℕ) (all : List (ℕ × Instalment)) → AllByRecursion (λ (item : ℕ × Instalment). IsWhole item.1)
      all
      → l.rows ≡ map (λ (item : ℕ × Instalment). instalment_row (instalment_in office loan item)) all
      → l.instalments.items
      ≡ map (λ (item : ℕ × Instalment). item.1) (take l.row-index all);
  whole : AreWhole l.instalments.items;
  within : AreWithin l.instalments.items;
}
