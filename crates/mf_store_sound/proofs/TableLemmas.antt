-- The rows of all tables, by those that each table holds.
use Rattle.std.proofs.Common.{◌≡◌, ◌∙◌, List, subst}
use Rattle.mf_store_schema.specs.Rows.{Lists}
use Rattle.mf_store_schema.specs.declared.charges.ChargeRow.{ChargeRow}
use Rattle.mf_store_schema.specs.declared.clients.ClientRow.{ClientRow}
use Rattle.mf_store_schema.specs.declared.entries.EntryRow.{EntryRow}
use Rattle.mf_store_schema.specs.declared.instalments.InstalmentRow.{InstalmentRow}
use Rattle.mf_store_schema.specs.declared.loans.LoanRow.{LoanRow}
use Rattle.mf_store_schema.specs.declared.meta.MetaRow.{MetaRow}
use Rattle.mf_store_schema.specs.declared.offices.OfficeRow.{OfficeRow}
use Rattle.mf_store_schema.specs.declared.products.ProductRow.{ProductRow}
use Rattle.mf_store_schema.specs.declared.receipts.ReceiptRow.{ReceiptRow}
use Rattle.mf_store_schema.specs.declared.shares.ShareRow.{ShareRow}
use Rattle.mf_store_schema.specs.declared.staff.StaffRow.{StaffRow}

-- what is told of the rows that each table holds, of those of all tables
pub of_parts : (P : Lists → Type 0) (t inside : Lists) (view : inside ≡ t) (meta : List MetaRow)
    (offices : List OfficeRow) (staff : List StaffRow) (clients : List ClientRow) (charges : List ChargeRow)
    (products : List ProductRow) (loans : List LoanRow) (entries : List EntryRow) (receipts : List ReceiptRow)
    (instalments : List InstalmentRow) (shares : List ShareRow)
    → meta ≡ inside.meta → offices ≡ inside.offices → staff ≡ inside.staff → clients ≡ inside.clients
    → charges ≡ inside.charges → products ≡ inside.products → loans ≡ inside.loans → entries ≡ inside.entries
    → receipts ≡ inside.receipts → instalments ≡ inside.instalments → shares ≡ inside.shares
    → P (record {
      meta = meta;
      offices = offices;
      staff = staff;
      clients = clients;
      charges = charges;
      products = products;
      loans = loans;
      entries = entries;
      receipts = receipts;
      instalments = instalments;
      shares = shares;
      journal = inside.journal;
    }) → P t
of_parts P t inside view meta offices staff clients charges products loans entries receipts instalments shares
    m o s c h p l e r i q told =
    subst P (λ z. record {
      meta = (m ∙ (λ y. (view y).meta)) z;
      offices = (o ∙ (λ y. (view y).offices)) z;
      staff = (s ∙ (λ y. (view y).staff)) z;
      clients = (c ∙ (λ y. (view y).clients)) z;
      charges = (h ∙ (λ y. (view y).charges)) z;
      products = (p ∙ (λ y. (view y).products)) z;
      loans = (l ∙ (λ y. (view y).loans)) z;
      entries = (e ∙ (λ y. (view y).entries)) z;
      receipts = (r ∙ (λ y. (view y).receipts)) z;
      instalments = (i ∙ (λ y. (view y).instalments)) z;
      shares = (q ∙ (λ y. (view y).shares)) z;
      journal = (view z).journal;
    }) told
