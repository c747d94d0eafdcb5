use Rattle.std.proofs.Common.{◌≡◌, ℕ, List, map, drop}
use Rattle.std.specs.List.{AllByRecursion, list_all}
use Rattle.mf_account.specs.Lawful.{is_last_of}
use Rattle.mf_account.specs.declared.entry.Entry.{Entry}
use Rattle.mf_store_values.specs.Ledgers.{IsReadable}
use Rattle.mf_store_values.specs.Flat.{entry_in}
use Rattle.mf_store_sound.proofs.SealLemmas.{is_past_of}
use Rattle.mf_store_sound.proofs.seals.is_last.Given as goal

abbrev pub invariant-loop-row : goal.invariant-loop-row
invariant-loop-row l =
    (x m : ℕ) (entries : List Entry) (e : Entry) → AllByRecursion IsReadable entries → map (entry_in x m) entries
    ≡ l.rows → IsReadable e → entry_in x m e ≡ l.last
    → is_last_of entries e ≡ list_all (is_past_of e) (drop l.row-index entries)
