-- Rows of entries.
use Rattle.std.specs.Prelude.{◌≡◌, ℕ, ◌≤◌, List, map, IfSome}
use Rattle.std.specs.List.{AllByRecursion}
use Rattle.mf_account.specs.declared.entry.Entry.{Entry}
use Rattle.mf_account.specs.Loan.{IsEntry, AreEntries}
use Rattle.mf_account.specs.Receipts.{IsReceipt}
use Rattle.mf_store_schema.specs.declared.entries.EntryRow.{EntryRow}
use Rattle.mf_store_values.specs.Flat.{entry_in}
use Rattle.mf_store_values.specs.Ledgers.{IsReadable, IsEnteredBy}

-- the row is that of an entry under this number, of a loan of n instalments that was disbursed on a day, whoever
-- entered it
pub record IsEntryRow (today day n office loan number : ℕ) (row : EntryRow) : Type 0 where
  pub entry : Entry
  pub readable : IsReadable entry
  pub own : entry.seq ≡ number
  pub lawful : IsEntry n day entry
  pub entered : entry.day ≤ today
  pub receipt : IfSome entry.receipt IsReceipt
  pub row_is : entry_in office loan entry ≡ row

-- the rows are those of the entries of one loan of n instalments that was disbursed on a day; that their callers are
-- there is left open
pub record AreLoanEntries (today day n office loan : ℕ) (rows : List EntryRow) : Type 0 where
  pub entries : List Entry
  pub lawful : AreEntries n day entries
  pub each : AllByRecursion (IsEnteredBy today) entries
  pub rows_are : map (entry_in office loan) entries ≡ rows
