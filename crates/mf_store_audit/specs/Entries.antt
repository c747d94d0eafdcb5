-- What is wrong with rows of entries and of receipts.
use Rattle.std.specs.Prelude.{◌≡◌, ◌≢◌, ℕ, pos, ◌<◌, ◌≤◌, ◌==◌, ◌&&◌, Bool, true, false, List, Option, Some, None}
use Rattle.std.specs.Prelude.{IfSome}
use Rattle.std.specs.List.{list_any, Contains}
use Rattle.mf_account.specs.declared.entry.Entry.{Entry}
use Rattle.mf_account.specs.Kinds.{is_seal}
use Rattle.mf_account.specs.Loan.{HasColumns}
use Rattle.mf_account.specs.Receipts.{IsReceipt}
use Rattle.mf_account.specs.Standing.{is_before}
use Rattle.mf_base.specs.DayText.{day_text, last_entered_day}
use Rattle.mf_office.specs.Texts.{caller_of}
use Rattle.mf_office.specs.declared.caller.Caller.{Caller}
use Rattle.mf_store_values.specs.Flat.{entry_in, entry_kind_number, portion_number, flag_number}
use Rattle.mf_store_values.specs.Ledgers.{IsReadable}
use Rattle.mf_store_values.specs.ReceiptRows.{receipt_of}
use Rattle.mf_store_schema.specs.Rows.{by_entry, by_loan, by_receipt}
use Rattle.mf_store_schema.specs.declared.entries.EntryRow.{EntryRow}
use Rattle.mf_store_schema.specs.declared.loans.LoanRow.{LoanRow}
use Rattle.mf_store_schema.specs.declared.receipts.ReceiptRow.{ReceiptRow}
use Rattle.mf_store_schema.specs.declared.staff.StaffRow.{StaffRow}
use Rattle.mf_store_sound.specs.Held.{Rises}
use Rattle.mf_store_audit.specs.Catalogue.{IsNoNumber}
use Rattle.mf_store_audit.specs.Places.{number_within, IsAfter, IsNoDay}
use Rattle.mf_store_audit.specs.declared.entries.EntrySetting.{EntrySetting}
use Rattle.mf_store_audit.specs.declared.finding.EntryFlaw.{EntryFlaw}
use Rattle.mf_store_audit.specs.declared.finding.EntryFlaw.TheVariants as entry
use Rattle.mf_store_audit.specs.declared.finding.ReceiptFlaw.{ReceiptFlaw}
use Rattle.mf_store_audit.specs.declared.finding.ReceiptFlaw.TheVariants as receipt

-- a row of the entry's loan
abbrev pub is_own_loan : EntryRow → LoanRow → Bool
is_own_loan row l = (l.office == row.office) && (l.number == row.loan)

-- the entry's loan has a row of which this holds
pub record OnLoan (loans : List LoanRow) (row : EntryRow) (Holds : LoanRow → Type 0) : Type 0 where
  pub loan : LoanRow
  pub there : Contains loans loan
  pub own : is_own_loan row loan ≡ true
  pub holds : Holds loan

-- a member of staff whom a text names is there
abbrev pub is_staff_named : List StaffRow → Option Caller → Bool
is_staff_named staff None = false
is_staff_named staff (Some c) = list_any (λ (s : StaffRow). (s.office == c.office) && (s.number == c.staff)) staff

-- the row is that of an entry whose columns are not such as its kind has, on a loan of so many periods
pub record HasWrongColumns (row : EntryRow) (periods : ℕ) : Type 0 where
  pub entry : Entry
  pub readable : IsReadable entry
  pub row_is : entry_in row.office row.loan entry ≡ row
  pub wrong : ¬ HasColumns entry.kind periods entry

-- the row is that of a write-off or a refund that stands, and another standing entry of its loan does not come before
-- it
pub record IsNotLast (rows : List EntryRow) (row : EntryRow) : Type 0 where
  pub seal : Entry
  pub readable : IsReadable seal
  pub seal_is : entry_in row.office row.loan seal ≡ row
  pub sealing : is_seal seal.kind ≡ true
  pub stands : seal.reversed ≡ false
  pub other : Entry
  pub other_readable : IsReadable other
  pub other_there : Contains rows (entry_in row.office row.loan other)
  pub another : other.seq ≢ seal.seq
  pub other_stands : other.reversed ≡ false
  pub not_before : is_before other seal ≡ false

-- the receipts have a row of this office, receipt, loan and entry
abbrev pub AreListed : List ReceiptRow → List ReceiptRow → Type 0
AreListed receipts own = (r : ReceiptRow) → Contains own r → Contains receipts r

-- the row's day is before its loan's disbursement
abbrev pub IsEarly : EntryRow → LoanRow → Type 0
IsEarly row l = (day : ℕ) × (first : ℕ) × (first ≤ last_entered_day) × (day_text day ≡ row.day)
    × (l.disbursed ≡ Some (day_text first)) × (day < first)

-- the row's day is after the business day
abbrev pub IsLate : ℕ → EntryRow → Type 0
IsLate today row = (day : ℕ) × (day ≤ last_entered_day) × (day_text day ≡ row.day) × (today < day)

-- a row of an entry, after another, over these loans, staff and receipts, on a business day
abbrev pub BreaksEntry : ℕ → List LoanRow → List StaffRow → List ReceiptRow → List EntryRow → EntryFlaw
    → Option EntryRow → EntryRow → Type 0
BreaksEntry today loans staff receipts rows entry.Order before row = ¬ IsAfter by_entry before row
BreaksEntry today loans staff receipts rows entry.Loan before row = list_any (is_own_loan row) loans ≡ false
BreaksEntry today loans staff receipts rows entry.Undisbursed before row = OnLoan loans row (λ l. l.disbursed ≡ None)
BreaksEntry today loans staff receipts rows entry.Number before row =
    row.seq ≢ number_within (λ (e : EntryRow). (e.loan == row.loan) && (e.office == row.office)) (λ e. e.seq) before
BreaksEntry today loans staff receipts rows entry.Limit before row = 9999 < row.seq
BreaksEntry today loans staff receipts rows entry.Kind before row = IsNoNumber entry_kind_number row.kind
BreaksEntry today loans staff receipts rows entry.Day before row = IsNoDay row.day
BreaksEntry today loans staff receipts rows entry.Early before row = OnLoan loans row (IsEarly row)
BreaksEntry today loans staff receipts rows entry.Late before row = IsLate today row
BreaksEntry today loans staff receipts rows entry.Amount before row = (amount : ℕ) → pos amount ≢ row.amount
BreaksEntry today loans staff receipts rows entry.Portion before row = IsNoNumber portion_number row.portion
BreaksEntry today loans staff receipts rows entry.Reversed before row = IsNoNumber flag_number row.reversed
BreaksEntry today loans staff receipts rows entry.Columns before row =
    OnLoan loans row (λ l. HasWrongColumns row l.periods)
BreaksEntry today loans staff receipts rows entry.Receipt before row = ¬ IfSome row.receipt IsReceipt
BreaksEntry today loans staff receipts rows entry.Seal before row = IsNotLast rows row
BreaksEntry today loans staff receipts rows entry.Staff before row = is_staff_named staff (caller_of row.staff) ≡ false
BreaksEntry today loans staff receipts rows entry.Unlisted before row =
    ¬ AreListed receipts (receipt_of row row.receipt)

-- the same under a setting
abbrev pub BreaksEntryIn : EntrySetting → EntryFlaw → Option EntryRow → EntryRow → Type 0
BreaksEntryIn s = BreaksEntry s.today s.loans.now s.staff.now s.receipts.now s.entries.now

-- the rows of loans and of entries rise by their keys
abbrev pub AreInOrder : EntrySetting → Type 0
AreInOrder s = Rises by_loan s.loans.now × Rises by_entry s.entries.now

-- a row of a receipt, after another, over these entries
abbrev pub BreaksReceipt : List EntryRow → ReceiptFlaw → Option ReceiptRow → ReceiptRow → Type 0
BreaksReceipt entries receipt.Order before row = ¬ IsAfter by_receipt before row
BreaksReceipt entries receipt.Entry before row =
    (e : EntryRow) → Contains entries e → ¬ Contains (receipt_of e e.receipt) row
