-- Whether writes suit the rows that are there: an insert over a row that is there fails, so it makes no change.
use Rattle.std.specs.Prelude.{Option, None, Some, List}
use Rattle.mf_store_sql.specs.Writes.{AllFit}
use Rattle.mf_model.specs.Institution.{Institution}
use Rattle.mf_model.specs.Store.{after_commit}
use Rattle.mf_model.specs.declared.commit.Commit.{Commit}
use Rattle.mf_store_values.specs.Flat.{tables_of}
use Rattle.mf_store_schema.specs.Rows.{Lists, IsNew, IsThere, by_office, by_staff, by_client, by_charge, by_product}
use Rattle.mf_store_schema.specs.Rows.{by_loan, by_entry, by_receipt}
use Rattle.mf_store_schema.specs.Writes.{after_write}
use Rattle.mf_store_schema.specs.declared.writes.StoreWrite.{StoreWrite}
use Rattle.mf_store_schema.specs.declared.writes.StoreWrite.TheVariants.{PutOffice, PutStaff, PutClient, PutCharge}
use Rattle.mf_store_schema.specs.declared.writes.StoreWrite.TheVariants.{AddProduct, PutProduct, AddLoan, PutLoan}
use Rattle.mf_store_schema.specs.declared.writes.StoreWrite.TheVariants.{AddEntry, ChangeEntry, AddReceipt}
use Rattle.mf_store_commits.specs.Becoming.{Becomes, SpareMeta}

-- a write that adds a row adds a new one, and one that changes a product, a loan or an entry changes one that is there;
-- the others put or remove rows, there or not
abbrev pub SuitsRows : Lists → StoreWrite → Type 0
SuitsRows lists (PutOffice x) = IsNew by_office x lists.offices
SuitsRows lists (PutStaff x) = IsNew by_staff x lists.staff
SuitsRows lists (PutClient x) = IsNew by_client x lists.clients
SuitsRows lists (PutCharge x) = IsNew by_charge x lists.charges
SuitsRows lists (AddProduct x) = IsNew by_product x lists.products
SuitsRows lists (PutProduct x) = IsThere by_product x lists.products
SuitsRows lists (AddLoan x) = IsNew by_loan x lists.loans
SuitsRows lists (PutLoan x) = IsThere by_loan x lists.loans
SuitsRows lists (AddEntry x) = IsNew by_entry x lists.entries
SuitsRows lists (ChangeEntry x) = IsThere by_entry x lists.entries
SuitsRows lists (AddReceipt x) = IsNew by_receipt x lists.receipts
SuitsRows lists _ = Unit {0}

-- where there are no tables nothing is there
abbrev pub Suits : StoreWrite → Option Lists → Type 0
Suits write None = Unit {0}
Suits write (Some lists) = SuitsRows lists write

-- each of the writes suits the rows that those before it leave
abbrev pub AllSuit : List StoreWrite → Lists → Type 0
AllSuit writes lists = AllFit after_write Suits writes (Some lists)

-- the writes make the commit's change of the institution, leave the row of meta, and suit the institution's rows
pub record Carries (commit : Commit) (writes : List StoreWrite) (i : Institution) : Type 0 where
  pub becomes : Becomes writes i (after_commit commit i)
  pub spares : SpareMeta writes
  pub suits : AllSuit writes (tables_of i)
