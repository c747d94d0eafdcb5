use Rattle.std.proofs.Common.{◌≡◌, ℕ, List, map, take}
use Rattle.std.specs.List.{AllByRecursion}
use Rattle.mf_account.specs.declared.entry.Entry.{Entry}
use Rattle.mf_store_values.specs.Ledgers.{IsReadable}
use Rattle.mf_store_values.specs.Flat.{entry_in}
use Rattle.mf_store_values.proofs.kept_entries.entries_of.Given as goal

abbrev pub invariant-loop-row : goal.invariant-loop-row
invariant-loop-row l = (office loan : ℕ) (es : List Entry) → AllByRecursion IsReadable es
    → map (entry_in office loan) es ≡ l.rows → l.entries.items ≡ map (λ (e : Entry). e) (take l.row-index es)
