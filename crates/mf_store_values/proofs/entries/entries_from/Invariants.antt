use Rattle.std.proofs.Common.{◌≡◌, ℕ, List, map, take}
use Rattle.std.specs.List.{AllByRecursion}
use Rattle.mf_account.specs.declared.entry.Entry.{Entry}
use Rattle.mf_office.specs.Texts.{IsCaller}
use Rattle.mf_store_schema.specs.Rows.{entry_row}
use Rattle.mf_store_values.specs.Flat.{entry_in}
use Rattle.mf_store_values.proofs.entries.entries_from.Given as goal

abbrev pub invariant-loop-row : goal.invariant-loop-row
invariant-loop-row l = (office loan : ℕ) (es : List Entry) → AllByRecursion (λ (e : Entry). IsCaller e.staff)
    es → l.rows ≡ map (λ (e : Entry). entry_row (entry_in office loan e)) es → l.entries.items
    ≡ map (λ (e : Entry). e) (take l.row-index es)
