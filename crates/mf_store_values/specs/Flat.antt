-- The rows of an institution: one list a table, each in the order of its key.
use Rattle.std.specs.Prelude.{ℕ, zero, suc, pos, Bool, true, false, ◌+◌, length, slice_index, List, [], ◌∷◌, ◌++◌, map}
use Rattle.std.specs.Prelude.{option_map, Option, Some, None, nat_le}
use Rattle.mf_account.specs.declared.entry.Entry.{Entry}
use Rattle.mf_account.specs.declared.settled.SettledPart.{SettledPart}
use Rattle.mf_account.specs.Change.{settled_in}
pub use Rattle.mf_account.specs.Names.{entry_kind_number, how_number}
use Rattle.mf_account.specs.Loan.{DisbursedLoan, state_of_loan, settled_of_loan}
pub use Rattle.mf_alloc.specs.Portions.{portion_number}
use Rattle.mf_alloc.specs.Sums.{Instalment}
use Rattle.mf_base.specs.Choices.{frequency_number}
use Rattle.mf_base.specs.DayText.{day_text}
use Rattle.mf_catalog.specs.Names.{kind_number, calc_number, method_number, strategy_number}
use Rattle.mf_office.specs.Keys.{key_of, key_depth, with_last_raised, is_in_range}
use Rattle.mf_office.specs.Roles.{role_number}
use Rattle.mf_office.specs.Written.{caller_text}
use Rattle.mf_model.specs.Accounts.{account_in, of_account, status_in}
use Rattle.mf_model.specs.Institution.{Institution, Catalogue, ListedCharge, Ledger, ListedProduct, Office, Rows, Staff}
use Rattle.mf_model.specs.Institution.{office_at}
use Rattle.mf_model.specs.Institution.{item_numbered}
use Rattle.mf_model.specs.Stages.{stage_number, disbursed_on}
use Rattle.mf_model.specs.declared.loan.Loan.{Loan}
use Rattle.mf_model.specs.declared.loan.LoanLine.{LoanLine}
use Rattle.mf_model.specs.declared.loan.Stage.{Stage}
use Rattle.mf_model.specs.declared.loan.Stage.TheVariants.{Submitted, Approved, Disbursed, Withdrawn, Rejected}
use Rattle.mf_model.specs.Store.{rows_at}
use Rattle.mf_model.specs.Tree.{parent_of}
use Rattle.mf_store_schema.specs.Rows.{Lists}
use Rattle.mf_store_values.specs.ReceiptRows.{receipt_rows}
use Rattle.mf_store_schema.specs.declared.meta.MetaRow.{MetaRow}
use Rattle.mf_store_schema.specs.declared.offices.OfficeRow.{OfficeRow}
use Rattle.mf_store_schema.specs.declared.staff.StaffRow.{StaffRow}
use Rattle.mf_store_schema.specs.declared.clients.ClientRow.{ClientRow}
use Rattle.mf_store_schema.specs.declared.charges.ChargeRow.{ChargeRow}
use Rattle.mf_store_schema.specs.declared.products.ProductRow.{ProductRow}
use Rattle.mf_store_schema.specs.declared.loans.LoanRow.{LoanRow}
use Rattle.mf_store_schema.specs.declared.entries.EntryRow.{EntryRow}
use Rattle.mf_store_schema.specs.declared.instalments.InstalmentRow.{InstalmentRow}
use Rattle.mf_store_schema.specs.declared.instalments.PortionSums.{PortionSums}
use Rattle.mf_store_schema.specs.declared.shares.ShareRow.{ShareRow}

-- the number of the schema that these tables are
abbrev pub schema_number : ℕ
schema_number = 2

-- 1 for yes
abbrev pub flag_number : Bool → ℕ
flag_number false = 0
flag_number true = 1

-- the text of the day on which a loan was approved, where it stands approved or is disbursed
abbrev pub approval_text : Stage → Option (List ℕ)
approval_text Submitted = None
approval_text (Approved day) = Some (day_text day)
approval_text (Disbursed approved day) = Some (day_text approved)
approval_text Withdrawn = None
approval_text Rejected = None

-- the text of the day on which a loan was disbursed
abbrev pub disbursal_text : Stage → Option (List ℕ)
disbursal_text stage = option_map day_text (disbursed_on stage)

-- the row of meta of a business day
abbrev pub meta_on : ℕ → MetaRow
meta_on day = record { one = 1; schema = schema_number; day = day_text day }

-- an office's own row, with the hierarchy text that its parents give
abbrev pub office_under : (ℕ → Option ℕ) → Office → OfficeRow
office_under parents f = record { number = f.number; parent = f.parent; hkey = key_of parents f.number; name = f.name }

-- the row of a member of staff: office, number
abbrev pub staff_in : ℕ → ℕ → Staff → StaffRow
staff_in office number s = record { office = office; number = number; name = s.name; role = role_number s.role }

-- the row of a client: office, number
abbrev pub client_in : ℕ → ℕ → List ℕ → ClientRow
client_in office number name = record { office = office; number = number; name = name }

-- the row of a charge under its number
abbrev pub charge_as : ℕ → ListedCharge → ChargeRow
charge_as number c = record {
  number = number;
  name = c.name;
  kind = kind_number c.kind;
  calc = calc_number c.calc;
  value = pos c.value;
}

-- the row of a product under its number
abbrev pub product_as : ℕ → ListedProduct → ProductRow
product_as number p = record {
  number = number;
  name = p.members.name;
  method = method_number p.members.method;
  rate = p.members.rate;
  frequency = frequency_number p.members.freq;
  every = p.members.every;
  principal_grace = p.members.principal_grace;
  interest_grace = p.members.interest_grace;
  min_principal = pos p.members.min_principal;
  max_principal = pos p.members.max_principal;
  min_periods = p.members.min_periods;
  max_periods = p.members.max_periods;
  strategy = strategy_number p.members.strategy;
  disbursement_charge = p.members.disbursement_charge;
  instalment_charge = p.members.instalment_charge;
  overdue_charge = p.members.overdue_charge;
  retired = flag_number p.retired;
}

-- the row of a loan: office, number
abbrev pub loan_in : ℕ → ℕ → Loan → LoanRow
loan_in office number l = record {
  office = office;
  number = number;
  client = l.client;
  product = l.product;
  principal = pos l.principal;
  periods = l.periods;
  stage = stage_number l.stage;
  approved =
      approval_text l.stage;
  disbursed = disbursal_text l.stage;
}

-- the row of an entry: office, loan
abbrev pub entry_in : ℕ → ℕ → Entry → EntryRow
entry_in office loan e = record {
  office = office;
  loan = loan;
  seq = e.seq;
  kind = entry_kind_number e.kind;
  day = day_text e.day;
  amount = pos e.amount;
  instalment = e.instalment;
  portion = portion_number e.portion;
  receipt = e.receipt;
  staff = caller_text e.staff.office e.staff.staff;
  reversed = flag_number e.reversed;
}

-- the sums of a portion of an instalment, by its place
abbrev pub sums_at : Instalment → ℕ → PortionSums
sums_at row p = record {
  owed = pos (slice_index row.owed p);
  paid = pos (slice_index row.paid p);
  waived = pos (slice_index row.waived p);
  written_off = pos (slice_index row.written_off p);
}

-- the row of an instalment, with its number: office, loan
abbrev pub instalment_in : ℕ → ℕ → ℕ × Instalment → InstalmentRow
instalment_in office loan numbered = record {
  office = office;
  loan = loan;
  number = numbered.0;
  due = day_text numbered.1.due;
  penalty = sums_at numbered.1 0;
  fee = sums_at numbered.1 1;
  interest = sums_at numbered.1 2;
  principal = sums_at numbered.1 3;
}

-- the row of what an entry settled in a cell, with the entry's number and its place within the entry: office, loan
abbrev pub share_in : ℕ → ℕ → ℕ × (ℕ × SettledPart) → ShareRow
share_in office loan placed = record {
  office = office;
  loan = loan;
  seq = placed.0;
  place = placed.1.0;
  instalment = placed.1.1.cell.instalment;
  portion = portion_number placed.1.1.cell.portion;
  how = how_number placed.1.1.how;
  amount = pos placed.1.1.amount;
}

-- a loan in a list of loans: office, number
abbrev pub line_in : Catalogue → ℕ → ℕ → Ledger → LoanLine
line_in k office number l = record { loan = record { office = office; number = number }; status = status_in k l }

-- the loans of an office, without their entries
abbrev pub loans_of : Rows → List Loan
loans_of rows = map (λ (l : Ledger). l.loan) rows.loans

-- rows numbered by their places, the first with this number
abbrev pub numbered_from : {A R : Type 0} → (ℕ → A → R) → ℕ → List A → List R
numbered_from make n [] = []
numbered_from make n (x ∷ xs) = make n x ∷ numbered_from make (n + 1) xs

-- the rows of one kind, office by office
abbrev pub all_rows : {A R : Type 0} → (ℕ → ℕ → A → R) → (Rows → List A) → List Office → List R
all_rows make of [] = []
all_rows make of (f ∷ fs) = numbered_from (make f.number) 1 (of f.rows) ++ all_rows make of fs

-- the rows of what an office's loans have, loan by loan, the first with this number
abbrev pub rows_of_loans : {A R : Type 0} → (ℕ → ℕ → A → R) → (Ledger → List A) → ℕ → ℕ → List Ledger → List R
rows_of_loans make of office n [] = []
rows_of_loans make of office n (l ∷ ls) = map (make office n) (of l) ++ rows_of_loans make of office (n + 1) ls

-- the same of all loans, office by office
abbrev pub rows_by_loan : {A R : Type 0} → (ℕ → ℕ → A → R) → (Ledger → List A) → List Office → List R
rows_by_loan make of [] = []
rows_by_loan make of (f ∷ fs) = rows_of_loans make of f.number 1 f.rows.loans ++ rows_by_loan make of fs

-- the entries that a loan has
abbrev pub own_entries : Ledger → List Entry
own_entries l = l.entries

-- an account's instalments as they stand, with their numbers
abbrev pub instalments_kept : DisbursedLoan → List (ℕ × Instalment)
instalments_kept a = numbered_from (λ n row. (n, row)) 1 (state_of_loan a).rows

-- the parts that an entry settles, with its number and their places
abbrev pub placed_parts : ℕ → List SettledPart → List (ℕ × (ℕ × SettledPart))
placed_parts seq parts = numbered_from (λ place part. (seq, (place, part))) 1 parts

-- the same of so many entries, the first with this number
abbrev pub parts_from : (ℕ → List SettledPart) → ℕ → ℕ → List (ℕ × (ℕ × SettledPart))
parts_from parts seq zero = []
parts_from parts seq (suc count) = placed_parts seq (parts seq) ++ parts_from parts (seq + 1) count

-- what an account's entries settle, by entry and place
abbrev pub shares_kept : DisbursedLoan → List (ℕ × (ℕ × SettledPart))
shares_kept a = parts_from (λ seq. settled_in seq (settled_of_loan a)) 1 (length a.entries)

-- the rows of all entries
abbrev pub entry_rows : List Office → List EntryRow
entry_rows fs = rows_by_loan entry_in own_entries fs

-- what is read off a loan's account; nothing before it is disbursed
abbrev pub kept_of : {A : Type 0} → (DisbursedLoan → List A) → Catalogue → Ledger → List A
kept_of read k l = of_account [] read (account_in k l)

-- the rows of all instalments, as the replay of each loan's entries leaves them
abbrev pub instalment_rows : Catalogue → List Office → List InstalmentRow
instalment_rows k fs = rows_by_loan instalment_in (kept_of instalments_kept k) fs

-- the rows of what all entries settle, as that replay has it
abbrev pub share_rows : Catalogue → List Office → List ShareRow
share_rows k fs = rows_by_loan share_in (kept_of shares_kept k) fs

-- what the tables hold of an institution without a journal
abbrev pub tables_of : Institution → Lists
tables_of i = record {
  meta = meta_on i.catalogue.day ∷ [];
  offices = map (office_under (parent_of i.offices)) i.offices;
  staff = all_rows staff_in (λ rows. rows.staff) i.offices;
  clients = all_rows client_in (λ rows. rows.clients) i.offices;
  charges = numbered_from charge_as 1 i.catalogue.charges;
  products = numbered_from product_as 1 i.catalogue.products;
  loans = all_rows loan_in loans_of i.offices;
  entries = entry_rows i.offices;
  receipts = receipt_rows i.offices;
  instalments = instalment_rows i.catalogue i.offices;
  shares = share_rows i.catalogue i.offices;
  journal = [];
}

-- the row of an office that is there
abbrev pub office_row_at : ℕ → Institution → Option OfficeRow
office_row_at x i = option_map (office_under (parent_of i.offices)) (office_at x i.offices)

-- the row of a member of staff who is there
abbrev pub staff_row_at : ℕ → ℕ → Institution → Option StaffRow
staff_row_at x number i = option_map (staff_in x number) (item_numbered (rows_at x i).staff number)

-- the row of a client who is there
abbrev pub client_row_at : ℕ → ℕ → Institution → Option ClientRow
client_row_at x number i = option_map (client_in x number) (item_numbered (rows_at x i).clients number)

-- the row of a charge that is there
abbrev pub charge_row_at : ℕ → Institution → Option ChargeRow
charge_row_at number i = option_map (charge_as number) (item_numbered i.catalogue.charges number)

-- the row of a product that is there
abbrev pub product_row_at : ℕ → Institution → Option ProductRow
product_row_at number i = option_map (product_as number) (item_numbered i.catalogue.products number)

-- the row of a loan that is there
abbrev pub loan_row_at : ℕ → ℕ → Institution → Option LoanRow
loan_row_at x number i = option_map (loan_in x number) (item_numbered (loans_of (rows_at x i)) number)

-- what a loan that is there has
abbrev pub had_by : {A : Type 0} → (Ledger → List A) → Option Ledger → List A
had_by of None = []
had_by of (Some l) = of l

-- the entries of a loan that is there
abbrev pub ledger_entries : Option Ledger → List Entry
ledger_entries found = had_by own_entries found

-- an entry, reversed
abbrev pub reversed_entry : Entry → Entry
reversed_entry e = record e { reversed = true }

-- the hierarchy text of an office that is there
abbrev pub key_at : ℕ → Institution → Option (List ℕ)
key_at x i = option_map (λ (f : Office). key_of (parent_of i.offices) f.number) (office_at x i.offices)

-- the parent that an office's row names
abbrev pub above_of : Option OfficeRow → Option ℕ
above_of None = None
above_of (Some r) = r.parent

-- one hierarchy text lies in the range of another
abbrev pub sees : Option (List ℕ) → Option (List ℕ) → Bool
sees None key = false
sees (Some above) None = false
sees (Some above) (Some key) = is_in_range above (with_last_raised above) key

-- a key of at most five dots, one for each office on the way
abbrev pub has_room : Option (List ℕ) → Bool
has_room None = false
has_room (Some key) = nat_le (key_depth key) 5
