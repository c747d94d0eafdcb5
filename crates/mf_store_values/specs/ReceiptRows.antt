-- The rows of receipts, by office and then by the bytes of the receipt; and what adds an entry.
use Rattle.std.specs.Prelude.{◌≡◌, ℕ, List, [], ◌∷◌, ◌++◌, map, Option, Some, None}
use Rattle.sqlite_keyed.specs.Lists.{sort_by}
use Rattle.mf_model.specs.Institution.{Office}
use Rattle.mf_model.specs.Receipts.{Use, uses_from}
use Rattle.mf_store_schema.specs.Rows.{by_receipt, AreReceiptsInOrder}
use Rattle.mf_store_schema.specs.declared.entries.EntryRow.{EntryRow}
use Rattle.mf_store_schema.specs.declared.receipts.ReceiptRow.{ReceiptRow}
use Rattle.mf_store_schema.specs.declared.writes.StoreWrite.{StoreWrite}
use Rattle.mf_store_schema.specs.declared.writes.StoreWrite.TheVariants.{AddEntry, AddReceipt}

-- the row of a receipt that was used in an office
abbrev pub receipt_in : ℕ → Use → ReceiptRow
receipt_in office u = record { office = office; receipt = u.receipt; loan = u.by.loan; seq = u.by.seq }

-- the rows of the receipts that entries carry, office by office
abbrev pub receipts_carried : List Office → List ReceiptRow
receipts_carried [] = []
receipts_carried (f ∷ fs) = map (receipt_in f.number) (uses_from 1 f.rows.loans) ++ receipts_carried fs

-- these in the order of their key
abbrev pub receipt_rows : List Office → List ReceiptRow
receipt_rows fs = sort_by by_receipt (receipts_carried fs)

-- the write of its receipt's row, if it carries one
abbrev pub receipt_added : EntryRow → Option (List ℕ) → List StoreWrite
receipt_added entry None = []
receipt_added entry (Some receipt) =
    AddReceipt (record { office = entry.office; receipt = receipt; loan = entry.loan; seq = entry.seq }) ∷ []

-- the writes that add an entry: its row, and that of its receipt
abbrev pub entry_added : EntryRow → List StoreWrite
entry_added entry = AddEntry entry ∷ receipt_added entry entry.receipt

-- the row of the receipt that an entry's row carries
abbrev pub receipt_of : EntryRow → Option (List ℕ) → List ReceiptRow
receipt_of entry None = []
receipt_of entry (Some receipt) = record {
  office = entry.office;
  receipt = receipt;
  loan = entry.loan;
  seq = entry.seq;
} ∷ []

-- the rows of the receipts that rows of entries carry
abbrev pub carried_by : List EntryRow → List ReceiptRow
carried_by [] = []
carried_by (entry ∷ entries) = receipt_of entry entry.receipt ++ carried_by entries

-- these are the rows of the receipts that the rows of entries carry, in the order of their key, and no key comes twice
pub record AreReceiptsOf (receipts : List ReceiptRow) (entries : List EntryRow) : Type 0 where
  pub in_order : AreReceiptsInOrder receipts
  pub rows_are : sort_by by_receipt (carried_by entries) ≡ receipts
