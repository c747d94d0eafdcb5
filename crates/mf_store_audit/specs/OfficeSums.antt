-- Rows of offices, of their clients, loans and entries.
use Rattle.std.specs.Prelude.{◌≡◌, ℕ, List, map}
use Rattle.std.specs.List.{AllByRecursion}
use Rattle.mf_model.specs.Institution.{Catalogue, Ledger, Office}
use Rattle.mf_model.specs.Tree.{Ascending}
use Rattle.mf_store_schema.specs.declared.clients.ClientRow.{ClientRow}
use Rattle.mf_store_schema.specs.declared.entries.EntryRow.{EntryRow}
use Rattle.mf_store_schema.specs.declared.loans.LoanRow.{LoanRow}
use Rattle.mf_store_schema.specs.declared.offices.OfficeRow.{OfficeRow}
use Rattle.mf_store_values.specs.Flat.{all_rows, entry_rows, loans_of, client_in, loan_in}
use Rattle.mf_store_values.specs.Ledgers.{IsPlainLoan}
use Rattle.mf_store_values.specs.Parts.{bare, office_of}

-- a sound loan of an office with some clients, but for who entered its entries
pub record IsPlain (k : Catalogue) (l : Ledger) : Type 0 where
  pub names : List (List ℕ)
  pub plain : IsPlainLoan k names l

-- the rows are those of these offices, of their clients, loans and entries, office by office
pub record AreRowsOfOffices (k : Catalogue) (offices : List OfficeRow) (clients : List ClientRow) (loans : List LoanRow)
    (entries : List EntryRow) (fs : List Office) : Type 0 where
  pub ascending : Ascending fs
  pub theirs : map bare fs ≡ map office_of offices
  pub plain : AllByRecursion (λ (f : Office). AllByRecursion (IsPlain k) f.rows.loans) fs
  pub clients_are : all_rows client_in (λ own. own.clients) fs ≡ clients
  pub loans_are : all_rows loan_in loans_of fs ≡ loans
  pub entries_are : entry_rows fs ≡ entries
