-- What the columns of the rows of charges, products, loans and entries stand for, and which rows stand for nothing.
use Rattle.std.specs.Prelude.{◌≡◌, ◌≢◌, ◌≤◌, ℕ, List, Option}
use Rattle.mf_account.specs.declared.entry.Entry.{Entry}
use Rattle.mf_alloc.specs.Sums.{Instalment, IsRowWithin}
use Rattle.mf_base.specs.DayText.{last_day, last_entered_day}
use Rattle.mf_office.specs.Numbers.{IsNumberUpTo}
use Rattle.mf_model.specs.Receipts.{Use}
use Rattle.mf_model.specs.Sound.{IsStageBy}
use Rattle.mf_model.specs.declared.loan.Loan.{Loan}
use Rattle.mf_model.specs.Institution.{ListedCharge, ListedProduct}
use Rattle.mf_model.specs.Stages.{stage_number}
use Rattle.mf_model.specs.declared.loan.Stage.{Stage}
use Rattle.mf_store_values.specs.declared.catalogue.ChargeColumns.{ChargeColumns}
use Rattle.mf_store_values.specs.declared.catalogue.ProductColumns.{ProductColumns}
use Rattle.mf_store_values.specs.declared.kept_entries.EntryColumns.{EntryColumns}
use Rattle.mf_store_values.specs.Flat.{approval_text, disbursal_text, entry_in, instalment_in, loan_in}
use Rattle.mf_store_values.specs.ReceiptRows.{receipt_in}
use Rattle.mf_store_schema.specs.declared.entries.EntryRow.{EntryRow}
use Rattle.mf_store_schema.specs.declared.instalments.InstalmentRow.{InstalmentRow}
use Rattle.mf_store_schema.specs.declared.loans.LoanRow.{LoanRow}
use Rattle.mf_store_schema.specs.declared.receipts.ReceiptRow.{ReceiptRow}

-- what they stand for of a charge
abbrev pub charge_columns_of : ListedCharge → ChargeColumns
charge_columns_of c = record { kind = c.kind; calc = c.calc; value = c.value }

-- what they stand for of a product
abbrev pub product_columns_of : ListedProduct → ProductColumns
product_columns_of p = record {
  method = p.members.method;
  freq = p.members.freq;
  strategy = p.members.strategy;
  min_principal = p.members.min_principal;
  max_principal = p.members.max_principal;
  retired = p.retired;
}

-- the number and the texts of days that a row keeps of a stage
abbrev pub IsStageTold : Stage → LoanRow → Type 0
IsStageTold stage row = (stage_number stage ≡ row.stage) × (approval_text stage ≡ row.approved)
    × (disbursal_text stage ≡ row.disbursed)

-- what they stand for of an entry
abbrev pub entry_columns_of : Entry → EntryColumns
entry_columns_of e = record {
  kind = e.kind;
  portion = e.portion;
  reversed = e.reversed;
  amount = e.amount;
  day = e.day;
  staff = e.staff;
}

-- the entry of that, with a number, an instalment and a receipt
abbrev pub entry_with : ℕ → ℕ → Option (List ℕ) → EntryColumns → Entry
entry_with seq instalment receipt c = record {
  seq = seq;
  kind = c.kind;
  day = c.day;
  amount = c.amount;
  instalment = instalment;
  portion = c.portion;
  receipt = receipt;
  staff = c.staff;
  reversed = c.reversed;
}

-- and with those of a row
abbrev pub entry_of_columns : EntryRow → EntryColumns → Entry
entry_of_columns row c = entry_with row.seq row.instalment row.receipt c

-- the row is that of no instalment of which at most what is owed is settled
abbrev pub IsNoInstalment : InstalmentRow → Type 0
IsNoInstalment row = (office loan number : ℕ) (sums : Instalment) → sums.due ≤ last_day → IsRowWithin sums
    → row ≢ instalment_in office loan (number, sums)

-- the row is that of no loan with a client's number and days that may be entered
abbrev pub IsNoLoan : LoanRow → Type 0
IsNoLoan row = (today office number : ℕ) (l : Loan) → today ≤ last_entered_day → IsStageBy today l.stage
    → IsNumberUpTo 999999 l.client → row ≢ loan_in office number l

-- the rows are not those of a receipt and of the entry that carries it
abbrev pub AreOfNoUse : ReceiptRow → EntryRow → Type 0
AreOfNoUse receipt entry = (office : ℕ) (u : Use) (e : Entry) → IsNumberUpTo 999999 u.by.loan → e.day ≤ last_day
    → receipt ≡ receipt_in office u → entry ≢ entry_in office u.by.loan e
