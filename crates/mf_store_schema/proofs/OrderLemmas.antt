-- The order of each table's rows is a total one.
use Rattle.std.specs.Cmp.{IsTotalOrder}
use Rattle.mf_store_sql.proofs.TableLemmas.{keyed_total}
use Rattle.mf_store_schema.specs.Rows.{by_meta, meta_row, by_office, office_row, by_staff, staff_row, by_client}
use Rattle.mf_store_schema.specs.Rows.{client_row, by_charge, charge_row, by_product, product_row, by_loan, loan_row}
use Rattle.mf_store_schema.specs.Rows.{by_entry, entry_row, by_receipt, receipt_row, by_instalment, instalment_row}
use Rattle.mf_store_schema.specs.Rows.{by_share, share_row}
use Rattle.mf_store_schema.specs.MetaTexts as Meta
use Rattle.mf_store_schema.specs.OfficesTexts as Offices
use Rattle.mf_store_schema.specs.StaffTexts as Staff
use Rattle.mf_store_schema.specs.ClientsTexts as Clients
use Rattle.mf_store_schema.specs.ChargesTexts as Charges
use Rattle.mf_store_schema.specs.ProductsTexts as Products
use Rattle.mf_store_schema.specs.LoansTexts as Loans
use Rattle.mf_store_schema.specs.EntriesTexts as Entries
use Rattle.mf_store_schema.specs.ReceiptsTexts as Receipts
use Rattle.mf_store_schema.specs.InstalmentsTexts as Instalments
use Rattle.mf_store_schema.specs.SharesTexts as Shares

pub by_meta_total : IsTotalOrder by_meta
by_meta_total = keyed_total meta_row by_meta 1 Meta.ordered

pub by_office_total : IsTotalOrder by_office
by_office_total = keyed_total office_row by_office 1 Offices.ordered

pub by_staff_total : IsTotalOrder by_staff
by_staff_total = keyed_total staff_row by_staff 2 Staff.ordered

pub by_client_total : IsTotalOrder by_client
by_client_total = keyed_total client_row by_client 2 Clients.ordered

pub by_charge_total : IsTotalOrder by_charge
by_charge_total = keyed_total charge_row by_charge 1 Charges.ordered

pub by_product_total : IsTotalOrder by_product
by_product_total = keyed_total product_row by_product 1 Products.ordered

pub by_loan_total : IsTotalOrder by_loan
by_loan_total = keyed_total loan_row by_loan 2 Loans.ordered

pub by_entry_total : IsTotalOrder by_entry
by_entry_total = keyed_total entry_row by_entry 3 Entries.ordered

pub by_receipt_total : IsTotalOrder by_receipt
by_receipt_total = keyed_total receipt_row by_receipt 2 Receipts.ordered

pub by_instalment_total : IsTotalOrder by_instalment
by_instalment_total = keyed_total instalment_row by_instalment 3 Instalments.ordered

pub by_share_total : IsTotalOrder by_share
by_share_total = keyed_total share_row by_share 4 Shares.ordered
