-- The line of a finding: its table, the row's key as people know it, and the condition that the row breaks.
use Rattle.std.specs.Prelude.{ℕ, List, ◌++◌, codes, decimal, length, slice_get, Option, Some, None}
use Rattle.mf_office.specs.Written.{account_text, caller_text}
use Rattle.mf_store_schema.specs.Rows.{Lists}
use Rattle.mf_store_schema.specs.declared.charges.ChargeRow.{ChargeRow}
use Rattle.mf_store_schema.specs.declared.clients.ClientRow.{ClientRow}
use Rattle.mf_store_schema.specs.declared.entries.EntryRow.{EntryRow}
use Rattle.mf_store_schema.specs.declared.loans.LoanRow.{LoanRow}
use Rattle.mf_store_schema.specs.declared.offices.OfficeRow.{OfficeRow}
use Rattle.mf_store_schema.specs.declared.products.ProductRow.{ProductRow}
use Rattle.mf_store_schema.specs.declared.receipts.ReceiptRow.{ReceiptRow}
use Rattle.mf_store_schema.specs.declared.staff.StaffRow.{StaffRow}
use Rattle.mf_store_audit.specs.declared.finding.Finding.{Finding}
use Rattle.mf_store_audit.specs.declared.finding.Finding.TheVariants as finding
use Rattle.mf_store_audit.specs.declared.finding.RowKey.{RowKey}
use Rattle.microloan_audit.specs.Quoted.{quoted}
use Rattle.microloan_audit.specs.Words.{charge_words, client_words, doubt_words, entry_words, loan_words, meta_words}
use Rattle.microloan_audit.specs.Words.{not_replayed, office_words, product_words, receipt_words, staff_words}

-- a table, the key of its row, and what is said of it
abbrev pub said_of : List ℕ → List ℕ → List ℕ → List ℕ
said_of table key words = table ++ (codes " " ++ (key ++ (codes ": " ++ words)))

-- the same of the row at a place; no finding names a place at which there is none
abbrev pub said_at : {R : Type 0} → List ℕ → (R → List ℕ) → (R → List ℕ) → ℕ → Option R → List ℕ
said_at table key words place None = table ++ (codes ": no row at " ++ decimal place)
said_at table key words place (Some row) = said_of table (key row) (words row)

-- the key of an entry
abbrev pub entry_key : ℕ → ℕ → ℕ → List ℕ
entry_key office loan seq = account_text office loan ++ (codes " entry " ++ decimal seq)

-- the key of an instalment
abbrev pub instalment_key : ℕ → ℕ → ℕ → List ℕ
instalment_key office loan number = account_text office loan ++ (codes " instalment " ++ decimal number)

-- the line of a charge
abbrev pub charge_line : (ChargeRow → List ℕ) → ℕ → Option ChargeRow → List ℕ
charge_line = said_at (codes "charges") (λ (row : ChargeRow). decimal row.number)

-- the line of a product
abbrev pub product_line : (ProductRow → List ℕ) → ℕ → Option ProductRow → List ℕ
product_line = said_at (codes "products") (λ (row : ProductRow). decimal row.number)

-- the line of an office
abbrev pub office_line : (OfficeRow → List ℕ) → ℕ → Option OfficeRow → List ℕ
office_line = said_at (codes "offices") (λ (row : OfficeRow). decimal row.number)

-- the line of a member of staff
abbrev pub staff_line : (StaffRow → List ℕ) → ℕ → Option StaffRow → List ℕ
staff_line = said_at (codes "staff") (λ (row : StaffRow). caller_text row.office row.number)

-- the line of a client
abbrev pub client_line : (ClientRow → List ℕ) → ℕ → Option ClientRow → List ℕ
client_line = said_at (codes "clients") (λ (row : ClientRow). account_text row.office row.number)

-- the line of a loan
abbrev pub loan_line : (LoanRow → List ℕ) → ℕ → Option LoanRow → List ℕ
loan_line = said_at (codes "loans") (λ (row : LoanRow). account_text row.office row.number)

-- the line of an entry
abbrev pub entry_line : (EntryRow → List ℕ) → ℕ → Option EntryRow → List ℕ
entry_line = said_at (codes "entries") (λ (row : EntryRow). entry_key row.office row.loan row.seq)

-- the line of a receipt
abbrev pub receipt_line : (ReceiptRow → List ℕ) → ℕ → Option ReceiptRow → List ℕ
receipt_line =
    said_at (codes "receipts") (λ (row : ReceiptRow). decimal row.office ++ (codes " " ++ quoted row.receipt))

-- the line of an instalment, by its key
abbrev pub instalment_line : RowKey → List ℕ
instalment_line key = said_of (codes "instalments") (instalment_key key.office key.loan key.number) not_replayed

-- the line of shares, by the key of their entry
abbrev pub share_line : RowKey → List ℕ
share_line key = said_of (codes "shares") (entry_key key.office key.loan key.number) not_replayed

-- the line of a finding among these rows
unfoldable pub finding_line : Lists → Finding → List ℕ
finding_line lists finding.MetaRows = codes "meta: " ++ (decimal (length lists.meta) ++ codes " rows, and not one")
finding_line lists (finding.Meta place flaw) = codes "meta: " ++ meta_words flaw
finding_line lists (finding.Charge place flaw) =
    charge_line (λ row. charge_words flaw) place (slice_get lists.charges place)
finding_line lists (finding.Product place flaw) =
    product_line (λ row. product_words flaw) place (slice_get lists.products place)
finding_line lists finding.NoHead = codes "offices 1: the head office is not there"
finding_line lists (finding.Office place flaw) =
    office_line (office_words lists.offices flaw) place (slice_get lists.offices place)
finding_line lists (finding.Staff place flaw) =
    staff_line (λ row. staff_words flaw) place (slice_get lists.staff place)
finding_line lists (finding.Client place flaw) =
    client_line (λ row. client_words flaw) place (slice_get lists.clients place)
finding_line lists (finding.Loan place flaw) =
    loan_line (loan_words lists.products flaw) place (slice_get lists.loans place)
finding_line lists (finding.Entry place flaw) =
    entry_line (λ row. entry_words flaw) place (slice_get lists.entries place)
finding_line lists (finding.Receipt place flaw) =
    receipt_line (λ row. receipt_words flaw) place (slice_get lists.receipts place)
finding_line lists (finding.Instalment key) = instalment_line key
finding_line lists (finding.Share key) = share_line key
finding_line lists (finding.Suspect place doubt) = entry_line (doubt_words doubt) place (slice_get lists.entries place)
finding_line lists finding.Unsound = codes "no sound institution has these rows"
