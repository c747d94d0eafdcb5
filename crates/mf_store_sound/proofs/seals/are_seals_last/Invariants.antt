use Rattle.std.proofs.Common.{◌≡◌, ℕ, List, map, drop}
use Rattle.std.specs.List.{AllByRecursion, list_all}
use Rattle.mf_account.specs.Lawful.{are_seals_last}
use Rattle.mf_account.specs.declared.entry.Entry.{Entry}
use Rattle.mf_store_values.specs.Ledgers.{IsReadable}
use Rattle.mf_store_values.specs.Flat.{entry_in}
use Rattle.mf_store_sound.proofs.SealLemmas.{is_in_order_of}
use Rattle.mf_store_sound.proofs.seals.are_seals_last.Given as goal

abbrev pub invariant-loop-row : goal.invariant-loop-row
invariant-loop-row l =
    (x m : ℕ) (entries : List Entry) → AllByRecursion IsReadable entries → map (entry_in x m) entries ≡ l.rows
    → are_seals_last entries ≡ list_all (is_in_order_of entries) (drop l.row-index entries)
