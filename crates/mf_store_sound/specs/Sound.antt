-- Rows of loans with their entries, of offices, and of all tables: whether they are those of a sound institution.
use Rattle.std.specs.Prelude.{◌≡◌, ℕ, ◌≤◌, length, List, map}
use Rattle.std.specs.List.{AllByRecursion}
use Rattle.mf_model.specs.Institution.{Institution, Catalogue, Ledger, Office, Rows, Staff}
use Rattle.mf_model.specs.Sound.{IsName, IsSound}
use Rattle.mf_store_schema.specs.Rows.{Lists}
use Rattle.mf_store_schema.specs.declared.clients.ClientRow.{ClientRow}
use Rattle.mf_store_schema.specs.declared.entries.EntryRow.{EntryRow}
use Rattle.mf_store_schema.specs.declared.loans.LoanRow.{LoanRow}
use Rattle.mf_store_schema.specs.declared.offices.OfficeRow.{OfficeRow}
use Rattle.mf_store_schema.specs.declared.staff.StaffRow.{StaffRow}
use Rattle.mf_store_values.specs.Flat.{numbered_from, all_rows, rows_of_loans, entry_rows, own_entries, loans_of}
use Rattle.mf_store_values.specs.Flat.{staff_in, client_in, loan_in, entry_in}
use Rattle.mf_store_values.specs.Ledgers.{IsPlainLoan}
use Rattle.mf_store_sound.specs.Schemas.{tables_at, tables_under, without_accounts}
use Rattle.mf_store_schema.specs.declared.versions.Version.{Version}
use Rattle.mf_store_values.specs.Parts.{bare, office_of}

-- the rows are those of one loan of an office, and of its entries
pub record IsLoanPart (k : Catalogue) (clients : List (List ℕ)) (office number : ℕ) (row : LoanRow)
    (entries : List EntryRow) : Type 0 where
  pub ledger : Ledger
  pub plain : IsPlainLoan k clients ledger
  pub row_is : loan_in office number ledger.loan ≡ row
  pub entries_are : map (entry_in office number) ledger.entries ≡ entries

-- the rows are those of loans of an office and of their entries, loan by loan, the first with this number
pub record AreLoanParts (k : Catalogue) (clients : List (List ℕ)) (office first : ℕ) (loans : List LoanRow)
    (entries : List EntryRow) : Type 0 where
  pub ledgers : List Ledger
  pub each : AllByRecursion (IsPlainLoan k clients) ledgers
  pub loans_are : numbered_from (loan_in office) first (map (λ (l : Ledger). l.loan) ledgers) ≡ loans
  pub entries_are : rows_of_loans entry_in own_entries office first ledgers ≡ entries

-- an office's sound rows, but for who entered entries and for their receipts
pub record IsPlainRows (k : Catalogue) (rows : Rows) : Type 0 where
  pub staff_limit : length rows.staff ≤ 9999
  pub staff_names : AllByRecursion (λ (s : Staff). IsName s.name) rows.staff
  pub client_limit : length rows.clients ≤ 999999
  pub client_names : AllByRecursion IsName rows.clients
  pub loan_limit : length rows.loans ≤ 999999
  pub loans : AllByRecursion (IsPlainLoan k rows.clients) rows.loans

-- the rows are those of one office's staff, clients, loans and entries
pub record IsOfficePart (k : Catalogue) (office : ℕ) (staff : List StaffRow) (clients : List ClientRow)
    (loans : List LoanRow) (entries : List EntryRow) : Type 0 where
  pub rows : Rows
  pub plain : IsPlainRows k rows
  pub staff_are : numbered_from (staff_in office) 1 rows.staff ≡ staff
  pub clients_are : numbered_from (client_in office) 1 rows.clients ≡ clients
  pub loans_are : numbered_from (loan_in office) 1 (loans_of rows) ≡ loans
  pub entries_are : rows_of_loans entry_in own_entries office 1 rows.loans ≡ entries

-- the rows are those of these offices' staff, clients, loans and entries, office by office
pub record AreOfficeParts (k : Catalogue) (rows : List OfficeRow) (staff : List StaffRow) (clients : List ClientRow)
    (loans : List LoanRow) (entries : List EntryRow) : Type 0 where
  pub offices : List Office
  pub theirs : map bare offices ≡ map office_of rows
  pub plain : AllByRecursion (λ (f : Office). IsPlainRows k f.rows) offices
  pub staff_are : all_rows staff_in (λ own. own.staff) offices ≡ staff
  pub clients_are : all_rows client_in (λ own. own.clients) offices ≡ clients
  pub loans_are : all_rows loan_in loans_of offices ≡ loans
  pub entries_are : entry_rows offices ≡ entries

-- there is a sound institution whose rows these are, by the tables of a version
pub record AreOfSoundAt (v : Version) (lists : Lists) : Type 0 where
  pub institution : Institution
  pub sound : IsSound institution
  pub rows_are : tables_at v institution ≡ lists

-- there is a sound institution whose rows these are, under this schema's number and but for the rows of accounts
pub record AreUnder (schema : ℕ) (lists : Lists) : Type 0 where
  pub institution : Institution
  pub sound : IsSound institution
  pub rows_are : tables_under schema institution ≡ without_accounts lists
