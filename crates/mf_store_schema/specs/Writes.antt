-- The lists that the tables keep, and what each write makes of them. Before the tables are made there is none.
use Rattle.std.specs.Prelude.{◌≡◌, ℕ, Bool, true, false, List, [], ◌∷◌, ◌++◌, take, Option, Some, None, IsSome, Err}
use Rattle.std.specs.declared.cmp.Ordering.{Ordering}
use Rattle.sqlite.specs.Order.{Row}
use Rattle.sqlite.specs.Schema.{Schema}
use Rattle.sqlite.specs.Tree.{Trees}
use Rattle.sqlite_catalog.specs.Listing.{IsSound}
use Rattle.mf_store_sql.specs.Keep.{Keeps}
use Rattle.mf_store_sql.specs.Numbered.{Filed, KeepsLines}
use Rattle.mf_store_sql.specs.Texts.{insert_text, upsert_text}
use Rattle.mf_store_sql.specs.Trees.{Condition, AllHold}
use Rattle.sqlite.specs.State.{State, ExecutesInside}
use Rattle.sqlite.specs.declared.error.Error.{Error}
use Rattle.mf_store_sql.specs.Tables.{no_schema}
use Rattle.mf_store_sql.specs.Writes.{Serves, Steps}
use Rattle.mf_store_schema.specs.Tables.{schema_keeping, journal, meta, offices, staff, clients, charges, products}
use Rattle.mf_store_schema.specs.Tables.{loans, entries, receipts, instalments, shares}
use Rattle.mf_store_schema.specs.Versions.{count, schema_at}
use Rattle.mf_store_schema.specs.declared.versions.Version.{Version}
use Rattle.mf_store_schema.specs.Rows.{Lists, empty_lists, meta_row, office_row, staff_row, client_row, charge_row}
use Rattle.mf_store_schema.specs.Rows.{product_row, loan_row, entry_row, receipt_row, instalment_row, share_row}
use Rattle.mf_store_schema.specs.Rows.{by_meta, by_office, by_staff, by_client, by_charge, by_product, by_loan}
use Rattle.mf_store_schema.specs.Rows.{by_entry, by_receipt, by_instalment, by_share, put_meta, put_office, put_staff}
use Rattle.mf_store_schema.specs.Rows.{put_client, put_charge, put_product, put_loan, put_entry, put_receipt}
use Rattle.mf_store_schema.specs.Rows.{put_instalment, put_share, drop_shares}
use Rattle.mf_store_schema.specs.declared.writes.StoreWrite.{StoreWrite}
use Rattle.mf_store_schema.specs.declared.writes.StoreWrite.TheVariants.{MakeTables, PutMeta, PutOffice, PutStaff}
use Rattle.mf_store_schema.specs.declared.writes.StoreWrite.TheVariants.{PutClient, PutCharge, AddProduct, PutProduct}
use Rattle.mf_store_schema.specs.declared.writes.StoreWrite.TheVariants.{AddLoan, PutLoan, AddEntry, ChangeEntry}
use Rattle.mf_store_schema.specs.declared.writes.StoreWrite.TheVariants.{AddReceipt, PutInstalment, PutShare}
use Rattle.mf_store_schema.specs.declared.writes.StoreWrite.TheVariants.{RemoveShares}

-- the tree keeps these rows, in the order of their keys
abbrev pub kept_in : {X : Type 0} → ℕ → (X → Row) → (X → X → Ordering) → List X → Condition
kept_in tree stored cmp items = (tree, λ rows. Keeps stored cmp rows items)

-- what the tree of each table keeps, in the order of the tables
abbrev pub conditions : Lists → List Condition
conditions lists = kept_in 0 meta_row by_meta lists.meta ∷ kept_in 2 office_row by_office lists.offices
    ∷ kept_in 5 staff_row by_staff lists.staff ∷ kept_in 7 client_row by_client lists.clients
    ∷ kept_in 9 charge_row by_charge lists.charges ∷ kept_in 11 product_row by_product lists.products
    ∷ kept_in 13 loan_row by_loan lists.loans ∷ kept_in 15 entry_row by_entry lists.entries
    ∷ kept_in 17 receipt_row by_receipt lists.receipts
    ∷ kept_in 19 instalment_row by_instalment lists.instalments ∷ kept_in 21 share_row by_share lists.shares ∷ []

-- there is a journal, which has at least the row of where it begins
abbrev pub are_some : List Filed → Bool
are_some [] = false
are_some (line ∷ lines) = true

-- what the journal's tree keeps, where there is one
abbrev pub journal_conditions : List Filed → List Condition
journal_conditions [] = []
journal_conditions (line ∷ lines) = (23, λ rows. KeepsLines journal rows (line ∷ lines)) ∷ []

-- what the trees of all tables keep
abbrev pub all_conditions : Lists → List Condition
all_conditions lists = conditions lists ++ journal_conditions lists.journal

-- the trees list the schema of a version and obey it, and keep those of these lists that it has tables for
pub record HoldsAt (v : Version) (trees : Trees) (lists : Lists) : Type 0 where
  pub sound : IsSound (schema_at v) trees
  pub all : AllHold trees (take (count v) (conditions lists))

-- the schema of a database that keeps these lists; none where the tables are still to be made
abbrev pub schema_of : Option Lists → Schema
schema_of None = no_schema
schema_of (Some lists) = schema_keeping (are_some lists.journal)

-- the trees list today's schema, with the journal where there is one, and obey it, and keep these lists
pub record HoldsAll (trees : Trees) (lists : Lists) : Type 0 where
  pub sound : IsSound (schema_keeping (are_some lists.journal)) trees
  pub all : AllHold trees (all_conditions lists)

-- the trees keep these lists and nothing else
abbrev pub Holds : Trees → Option Lists → Type 0
Holds trees None = IsSound no_schema trees
Holds trees (Some lists) = HoldsAll trees lists

-- the lists with a change, where there are tables
abbrev pub lists_changed : (Lists → Lists) → Option Lists → Option Lists
lists_changed change None = None
lists_changed change (Some lists) = Some (change lists)

-- the lists after a write
abbrev pub after_write : StoreWrite → Option Lists → Option Lists
after_write MakeTables lists = Some empty_lists
after_write (PutMeta x) lists = lists_changed (put_meta x) lists
after_write (PutOffice x) lists = lists_changed (put_office x) lists
after_write (PutStaff x) lists = lists_changed (put_staff x) lists
after_write (PutClient x) lists = lists_changed (put_client x) lists
after_write (PutCharge x) lists = lists_changed (put_charge x) lists
after_write (AddProduct x) lists = lists_changed (put_product x) lists
after_write (PutProduct x) lists = lists_changed (put_product x) lists
after_write (AddLoan x) lists = lists_changed (put_loan x) lists
after_write (PutLoan x) lists = lists_changed (put_loan x) lists
after_write (AddEntry x) lists = lists_changed (put_entry x) lists
after_write (ChangeEntry x) lists = lists_changed (put_entry x) lists
after_write (AddReceipt x) lists = lists_changed (put_receipt x) lists
after_write (PutInstalment x) lists = lists_changed (put_instalment x) lists
after_write (PutShare x) lists = lists_changed (put_share x) lists
after_write (RemoveShares e) lists = lists_changed (drop_shares e) lists

-- tables are made where there is none, and rows are put and removed where there are
abbrev pub FitsLists : StoreWrite → Option Lists → Type 0
FitsLists MakeTables lists = lists ≡ None
FitsLists _ lists = IsSome lists

-- the transaction goes on; where there were no tables, they are there and have no rows
abbrev pub Making : State → State → Type 0
Making old new = Steps (Serves schema_of Holds) (λ lists. lists ≡ None) (λ _. Some empty_lists) old new

-- the transaction goes on, and the lists are changed so
abbrev pub Putting : (Lists → Lists) → State → State → Type 0
Putting change old new = Steps (Serves schema_of Holds) (λ lists. IsSome lists) (lists_changed change) old new

-- a statement of a transaction failed, as its text does with these values over what was there
pub record Failed (sql : List ℕ) (params : Row) (old new : State) (e : Error) : Type 0 where
  pub failed : ExecutesInside 0 sql params old new (Err e)

-- what holds of the text that a write of a row runs, and of the row's values: the text adds the row, which fails over
-- one that has its key, or puts it in place of that one
abbrev pub ByItsText : StoreWrite → (List ℕ → Row → Type 0) → Type 0
ByItsText MakeTables P = Unit {0}
ByItsText (PutMeta x) P = P (upsert_text meta) (meta_row x)
ByItsText (PutOffice x) P = P (insert_text offices) (office_row x)
ByItsText (PutStaff x) P = P (insert_text staff) (staff_row x)
ByItsText (PutClient x) P = P (insert_text clients) (client_row x)
ByItsText (PutCharge x) P = P (insert_text charges) (charge_row x)
ByItsText (AddProduct x) P = P (insert_text products) (product_row x)
ByItsText (PutProduct x) P = P (upsert_text products) (product_row x)
ByItsText (AddLoan x) P = P (insert_text loans) (loan_row x)
ByItsText (PutLoan x) P = P (upsert_text loans) (loan_row x)
ByItsText (AddEntry x) P = P (insert_text entries) (entry_row x)
ByItsText (ChangeEntry x) P = P (upsert_text entries) (entry_row x)
ByItsText (AddReceipt x) P = P (insert_text receipts) (receipt_row x)
ByItsText (PutInstalment x) P = P (upsert_text instalments) (instalment_row x)
ByItsText (PutShare x) P = P (upsert_text shares) (share_row x)
ByItsText (RemoveShares e) P = Unit {0}
