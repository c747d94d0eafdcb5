-- A row is that of one record: each column tells its field.
use Rattle.std.proofs.Common.{◌≡◌, ℕ, ℤ, ◌+◌, List, [], Option, None, Some, refl, sym, ap, ◌∙◌}
use Rattle.std.specs.Prelude.{pos}
use Rattle.sqlite.specs.declared.types.Value.{Value}
use Rattle.sqlite.specs.declared.types.Value.TheVariants.{Int, Text}
use Rattle.sqlite.specs.Order.{Row, column}
use Rattle.mf_store_sql.specs.Values.{or_null, or_text}
use Rattle.mf_store_schema.specs.Rows.{meta_row, office_row, staff_row, client_row, charge_row, product_row, loan_row}
use Rattle.mf_store_schema.specs.Rows.{entry_row, receipt_row, instalment_row, share_row}
use Rattle.mf_store_schema.specs.declared.meta.MetaRow.{MetaRow}
use Rattle.mf_store_schema.specs.declared.offices.OfficeRow.{OfficeRow}
use Rattle.mf_store_schema.specs.declared.staff.StaffRow.{StaffRow}
use Rattle.mf_store_schema.specs.declared.clients.ClientRow.{ClientRow}
use Rattle.mf_store_schema.specs.declared.charges.ChargeRow.{ChargeRow}
use Rattle.mf_store_schema.specs.declared.products.ProductRow.{ProductRow}
use Rattle.mf_store_schema.specs.declared.loans.LoanRow.{LoanRow}
use Rattle.mf_store_schema.specs.declared.entries.EntryRow.{EntryRow}
use Rattle.mf_store_schema.specs.declared.receipts.ReceiptRow.{ReceiptRow}
use Rattle.mf_store_schema.specs.declared.instalments.InstalmentRow.{InstalmentRow}
use Rattle.mf_store_schema.specs.declared.instalments.PortionSums.{PortionSums}
use Rattle.mf_store_schema.specs.declared.shares.ShareRow.{ShareRow}

-- ---- what a column tells; anything of a column that is no such field's

abbrev number_in : Value → ℕ
number_in (Int (pos n)) = n
number_in v = 0

abbrev amount_in : Value → ℤ
amount_in (Int n) = n
amount_in v = pos 0

abbrev text_in : Value → List ℕ
text_in (Text t) = t
text_in v = []

abbrev maybe_number_in : Value → Option ℕ
maybe_number_in (Int (pos n)) = Some n
maybe_number_in v = None

abbrev maybe_text_in : Value → Option (List ℕ)
maybe_text_in (Text t) = Some t
maybe_text_in v = None

number_back : (o : Option ℕ) → maybe_number_in (or_null o) ≡ o
number_back None = refl
number_back (Some n) = refl

text_back : (o : Option (List ℕ)) → maybe_text_in (or_text o) ≡ o
text_back None = refl
text_back (Some t) = refl

-- ---- each record

abbrev meta_in : Row → MetaRow
meta_in row = record { one = number_in (column row 0); schema = number_in (column row 1); day = text_in (column row 2) }

pub meta_once : (x y : MetaRow) → meta_row x ≡ meta_row y → x ≡ y
meta_once x y same = ap meta_in same

abbrev office_in : Row → OfficeRow
office_in row = record {
  number = number_in (column row 0);
  parent = maybe_number_in (column row 1);
  hkey = text_in (column row 2);
  name = text_in (column row 3);
}

office_back : (x : OfficeRow) → office_in (office_row x) ≡ x
office_back x = ap (λ o. record x { parent = o }) (number_back x.parent)

pub office_once : (x y : OfficeRow) → office_row x ≡ office_row y → x ≡ y
office_once x y same = sym (office_back x) ∙ ap office_in same ∙ office_back y

abbrev staff_in : Row → StaffRow
staff_in row = record {
  office = number_in (column row 0);
  number = number_in (column row 1);
  name = text_in (column row 2);
  role = number_in (column row 3);
}

pub staff_once : (x y : StaffRow) → staff_row x ≡ staff_row y → x ≡ y
staff_once x y same = ap staff_in same

abbrev client_in : Row → ClientRow
client_in row = record {
  office = number_in (column row 0);
  number = number_in (column row 1);
  name = text_in (column row 2);
}

pub client_once : (x y : ClientRow) → client_row x ≡ client_row y → x ≡ y
client_once x y same = ap client_in same

abbrev charge_in : Row → ChargeRow
charge_in row = record {
  number = number_in (column row 0);
  name = text_in (column row 1);
  kind = number_in (column row 2);
  calc = number_in (column row 3);
  value = amount_in (column row 4);
}

pub charge_once : (x y : ChargeRow) → charge_row x ≡ charge_row y → x ≡ y
charge_once x y same = ap charge_in same

abbrev product_in : Row → ProductRow
product_in row = record {
  number = number_in (column row 0);
  name = text_in (column row 1);
  method = number_in (column row 2);
  rate = number_in (column row 3);
  frequency = number_in (column row 4);
  every = number_in (column row 5);
  principal_grace = number_in (column row 6);
  interest_grace = number_in (column row 7);
  min_principal = amount_in (column row 8);
  max_principal = amount_in (column row 9);
  min_periods = number_in (column row 10);
  max_periods = number_in (column row 11);
  strategy = number_in (column row 12);
  disbursement_charge = maybe_number_in (column row 13);
  instalment_charge = maybe_number_in (column row 14);
  overdue_charge = maybe_number_in (column row 15);
  retired = number_in (column row 16);
}

product_back : (x : ProductRow) → product_in (product_row x) ≡ x
product_back x = ap (λ o. record x {
  disbursement_charge = o;
  instalment_charge = maybe_number_in (or_null x.instalment_charge);
  overdue_charge =
      maybe_number_in (or_null x.overdue_charge);
}) (number_back x.disbursement_charge)
    ∙ ap (λ o. record x { instalment_charge = o; overdue_charge = maybe_number_in (or_null x.overdue_charge) })
    (number_back x.instalment_charge)
    ∙ ap (λ o. record x { overdue_charge = o }) (number_back x.overdue_charge)

pub product_once : (x y : ProductRow) → product_row x ≡ product_row y → x ≡ y
product_once x y same = sym (product_back x) ∙ ap product_in same ∙ product_back y

abbrev loan_in : Row → LoanRow
loan_in row = record {
  office = number_in (column row 0);
  number = number_in (column row 1);
  client = number_in (column row 2);
  product = number_in (column row 3);
  principal = amount_in (column row 4);
  periods = number_in (column row 5);
  stage = number_in (column row 6);
  approved =
      maybe_text_in (column row 7);
  disbursed = maybe_text_in (column row 8);
}

loan_back : (x : LoanRow) → loan_in (loan_row x) ≡ x
loan_back x = ap (λ o. record x { approved = o; disbursed = maybe_text_in (or_text x.disbursed) })
    (text_back x.approved)
    ∙ ap (λ o. record x { disbursed = o }) (text_back x.disbursed)

pub loan_once : (x y : LoanRow) → loan_row x ≡ loan_row y → x ≡ y
loan_once x y same = sym (loan_back x) ∙ ap loan_in same ∙ loan_back y

abbrev entry_in : Row → EntryRow
entry_in row = record {
  office = number_in (column row 0);
  loan = number_in (column row 1);
  seq = number_in (column row 2);
  kind = number_in (column row 3);
  day = text_in (column row 4);
  amount = amount_in (column row 5);
  instalment = number_in (column row 6);
  portion = number_in (column row 7);
  receipt = maybe_text_in (column row 8);
  staff = text_in (column row 9);
  reversed = number_in (column row 10);
}

entry_back : (x : EntryRow) → entry_in (entry_row x) ≡ x
entry_back x = ap (λ o. record x { receipt = o }) (text_back x.receipt)

pub entry_once : (x y : EntryRow) → entry_row x ≡ entry_row y → x ≡ y
entry_once x y same = sym (entry_back x) ∙ ap entry_in same ∙ entry_back y

abbrev receipt_in : Row → ReceiptRow
receipt_in row = record {
  office = number_in (column row 0);
  receipt = text_in (column row 1);
  loan = number_in (column row 2);
  seq = number_in (column row 3);
}

pub receipt_once : (x y : ReceiptRow) → receipt_row x ≡ receipt_row y → x ≡ y
receipt_once x y same = ap receipt_in same

-- a portion's sums, from this column on
abbrev sums_in : ℕ → Row → PortionSums
sums_in first row = record {
  owed = amount_in (column row first);
  paid = amount_in (column row (first + 1));
  waived = amount_in (column row (first + 2));
  written_off = amount_in (column row (first + 3));
}

abbrev instalment_in : Row → InstalmentRow
instalment_in row = record {
  office = number_in (column row 0);
  loan = number_in (column row 1);
  number = number_in (column row 2);
  due = text_in (column row 3);
  penalty = sums_in 4 row;
  fee = sums_in 8 row;
  interest = sums_in 12 row;
  principal = sums_in 16 row;
}

pub instalment_once : (x y : InstalmentRow) → instalment_row x ≡ instalment_row y → x ≡ y
instalment_once x y same = ap instalment_in same

abbrev share_in : Row → ShareRow
share_in row = record {
  office = number_in (column row 0);
  loan = number_in (column row 1);
  seq = number_in (column row 2);
  place = number_in (column row 3);
  instalment = number_in (column row 4);
  portion =
      number_in (column row 5);
  how = number_in (column row 6);
  amount = amount_in (column row 7);
}

pub share_once : (x y : ShareRow) → share_row x ≡ share_row y → x ≡ y
share_once x y same = ap share_in same
