-- Rows that no record can hold.
use Rattle.std.specs.Prelude.{◌≡◌, ◌⊎◌, ◌+◌, ◌^◌, ◌≤◌, ℕ, zero, suc, ℤ, pos, negsuc, List, [], ◌∷◌, ◌++◌, length, Some}
use Rattle.std.specs.Prelude.{Option, None, slice_get, IsUtf8, Bool, true}
use Rattle.std.specs.List.{AllByRecursion}
use Rattle.std.specs.declared.cmp.Ordering.{Ordering}
use Rattle.std.proofs.Common.{refl}
use Rattle.sqlite.specs.declared.types.Value.{Value}
use Rattle.sqlite.specs.declared.types.Value.TheVariants.{Null, Int, Real, Text as Words, Blob}
use Rattle.sqlite.specs.Effect.{Database}
use Rattle.sqlite.specs.Order.{Row, column}
use Rattle.mf_store_sql.specs.Columns.{Columns, Field, Named, Number, Amount, Text, Bytes, MaybeNumber, MaybeText}
use Rattle.mf_store_sql.specs.Queries.{Answers}
use Rattle.mf_store_sql.specs.Texts.{select_text}
use Rattle.mf_store_schema.specs.Fields.{HasFields}
use Rattle.mf_store_schema.specs.Rows.{meta_row, office_row, staff_row, client_row, charge_row, product_row, loan_row}
use Rattle.mf_store_schema.specs.Rows.{entry_row, receipt_row, instalment_row, share_row, by_meta, by_office, by_staff}
use Rattle.mf_store_schema.specs.Rows.{by_client, by_charge, by_product, by_loan, by_entry, by_receipt, by_instalment}
use Rattle.mf_store_schema.specs.Rows.{by_share}
use Rattle.mf_store_schema.specs.Tables as table
use Rattle.mf_store_schema.specs.Whole.{ShowsTable}
use Rattle.mf_store_schema.specs.declared.versions.Version.{Version}
use Rattle.mf_store_schema.specs.declared.versions.Version.TheVariants.{First, Second, Third}
use Rattle.mf_store_audit.specs.declared.unread.TableName.{TableName}
use Rattle.mf_store_audit.specs.declared.unread.TableName.TheVariants.{Meta, Offices, Staff, Clients, Charges, Products}
use Rattle.mf_store_audit.specs.declared.unread.TableName.TheVariants.{Loans, Entries, Receipts, Instalments, Shares}
use Rattle.mf_store_audit.specs.declared.unread.Unread.{Unread}
use Rattle.mf_store_audit.specs.declared.unread.UnreadValue.{UnreadValue}
use Rattle.mf_store_audit.specs.declared.unread.UnreadValue.TheVariants.{NotUtf8, OutOfRange}

-- a text that is not UTF-8
abbrev pub IsBadText : Value → Type 0
IsBadText v = (t : List ℕ) × (v ≡ Words t) × ¬ IsUtf8 t

-- a column of the row holds such a text
abbrev pub HasBadText : Row → Type 0
HasBadText row = (at : ℕ) × IsBadText (column row at)

-- a value of the type that the column of a field has
abbrev pub IsOfType : Field → Value → Type 0
IsOfType Number v = (n : ℤ) × (v ≡ Int n)
IsOfType Amount v = (n : ℤ) × (v ≡ Int n)
IsOfType Text v = (t : List ℕ) × (v ≡ Words t)
IsOfType Bytes v = (b : List ℕ) × (v ≡ Blob b)
IsOfType MaybeNumber v = (v ≡ Null) ⊎ ((n : ℤ) × (v ≡ Int n))
IsOfType MaybeText v = (v ≡ Null) ⊎ ((t : List ℕ) × (v ≡ Words t))

-- the row's values are of the types of these columns, from this one on
abbrev pub AreOfTypesFrom : ℕ → List Named → Row → Type 0
AreOfTypesFrom at [] row = Unit {0}
AreOfTypesFrom at (c ∷ cs) row = IsOfType c.field (column row at) × AreOfTypesFrom (at + 1) cs row

-- a row of a table with these columns: a value for each, of its type, and no more
pub record IsTyped (columns : List Named) (row : Row) : Type 0 where
  pub width : length row ≡ length columns
  pub types : AreOfTypesFrom 0 columns row

-- a number below 0, or above 4294967295
abbrev pub IsBadNumber : Value → Type 0
IsBadNumber v = ((n : ℕ) × (v ≡ Int (negsuc n))) ⊎ ((n : ℕ) × (v ≡ Int (pos n)) × (2 ^ 32 ≤ n))

-- a number that is not 0 to 4294967295, in the column of a field of 32 bits
abbrev pub IsBadIn : Field → Value → Type 0
IsBadIn Number v = IsBadNumber v
IsBadIn Amount v = ⊥
IsBadIn Text v = ⊥
IsBadIn Bytes v = ⊥
IsBadIn MaybeNumber v = IsBadNumber v
IsBadIn MaybeText v = ⊥

-- one of the row's columns holds such a number, from this one on
abbrev pub HasBadNumberFrom : ℕ → List Named → Row → Type 0
HasBadNumberFrom at [] row = ⊥
HasBadNumberFrom at (c ∷ cs) row = IsBadIn c.field (column row at) ⊎ HasBadNumberFrom (at + 1) cs row

-- the value for which no record of these columns can hold a row: a text that is not UTF-8; or, where no text is such a
-- one and the values are of the types of their columns, a number that is not 0 to 4294967295
abbrev pub IsUnreadFor : UnreadValue → List Named → Row → Type 0
IsUnreadFor NotUtf8 columns row = HasBadText row
IsUnreadFor OutOfRange columns row = (¬ HasBadText row) × (IsTyped columns row → HasBadNumberFrom 0 columns row)

-- How a table keeps records: the row of each, with its columns and its order, and the tree of the rows; and how many of
-- a row's first columns hold the numbers of its key.
pub record KeptAs : Type 1 where
  pub Record : Type 0
  pub columns : Columns
  pub stored : Record → Row
  pub cmp : Record → Record → Ordering
  pub tree : ℕ
  pub numbers : ℕ

-- by these
abbrev pub kept_by : {X : Type 0} → Columns → (X → Row) → (X → X → Ordering) → ℕ → ℕ → KeptAs
kept_by {X} columns stored cmp tree numbers =
    record { Record = X; columns = columns; stored = stored; cmp = cmp; tree = tree; numbers = numbers }

-- how the table of a name does
abbrev pub kept_as : TableName → KeptAs
kept_as Meta = kept_by table.meta meta_row by_meta 0 1
kept_as Offices = kept_by table.offices office_row by_office 2 1
kept_as Staff = kept_by table.staff staff_row by_staff 5 2
kept_as Clients = kept_by table.clients client_row by_client 7 2
kept_as Charges = kept_by table.charges charge_row by_charge 9 1
kept_as Products = kept_by table.products product_row by_product 11 1
kept_as Loans = kept_by table.loans loan_row by_loan 13 2
kept_as Entries = kept_by table.entries entry_row by_entry 15 3
kept_as Receipts = kept_by table.receipts receipt_row by_receipt 17 1
kept_as Instalments = kept_by table.instalments instalment_row by_instalment 19 3
kept_as Shares = kept_by table.shares share_row by_share 21 4

-- a table keeps records so
pub record KeepsSo (t : KeptAs) {X : Type 0} (columns : Columns) (stored : X → Row) (by : X → X → Ordering) (tree : ℕ) :
    Type 0 where
  pub columns_are : t.columns ≡ columns
  pub tree_is : t.tree ≡ tree
  pub has : (x : X) → (y : t.Record) × (t.stored y ≡ stored x)
  pub shown : (rows shown : List Row) → ShowsTable stored by rows shown → ShowsTable t.stored t.cmp rows shown

-- each does so by what it has
pub keeps_so : (t : KeptAs) → KeepsSo t t.columns t.stored t.cmp t.tree
keeps_so t = record {
  columns_are = refl;
  tree_is = refl;
  has = λ x. (x, refl);
  shown = λ rows shown is. is;
}

-- the number that a value is, if it is one
abbrev pub number_of_value : Value → List ℤ
number_of_value Null = []
number_of_value (Int n) = n ∷ []
number_of_value (Real r) = []
number_of_value (Words t) = []
number_of_value (Blob b) = []

-- the numbers in the first columns of a row, so many
abbrev pub numbers_in : ℕ → Row → List ℤ
numbers_in zero row = []
numbers_in (suc n) row = numbers_in n row ++ number_of_value (column row n)

-- this tells of a row of a table that no record can hold it, for what value, and the numbers of its key
pub record IsUnreadRow (name : TableName) (row : Row) (u : Unread) : Type 0 where
  pub table_is : u.table ≡ name
  pub unread : ¬ HasFields (kept_as name).columns.columns row
  pub for_value : IsUnreadFor u.value (kept_as name).columns.columns row
  pub key_is : u.key.items ≡ numbers_in (kept_as name).numbers row

-- a record of a table has the row
abbrev pub IsRecords : TableName → Row → Type 0
IsRecords name row = (x : (kept_as name).Record) × ((kept_as name).stored x ≡ row)

-- what is told of the row at a place of a table: that no record can hold it; or nothing, where one has it
abbrev pub IsToldAt : TableName → ℕ → Row → Option Unread → Type 0
IsToldAt name place row None = IsRecords name row
IsToldAt name place row (Some u) = (u.place ≡ place) × IsUnreadRow name row u

-- that, if anything is told
abbrev pub listed : Option Unread → List Unread
listed None = []
listed (Some u) = u ∷ []

-- What is told of a table's rows from a place on, row by row: each that no record can hold, and of no other anything.
abbrev pub AreTold : TableName → ℕ → List Row → List Unread → Type 0
AreTold name place [] told = told ≡ []
AreTold name place (row ∷ rows) told =
    (first : Option Unread) × (later : List Unread) × IsToldAt name place row first
    × AreTold name (place + 1) rows later × (told ≡ listed first ++ later)

-- this tells of one of a table's rows that no record can hold it
pub record IsUnreadAmong (name : TableName) (rows : List Row) (u : Unread) : Type 0 where
  pub row : Row
  pub at : slice_get rows u.place ≡ Some row
  pub is : IsUnreadRow name row u

-- rows of a table were told that no record can hold; and, where all were wanted or none was told, each of them in order
pub record AreAdded (name : TableName) (rows : List Row) (all : Bool) (before after : List Unread) : Type 0 where
  pub told : List Unread
  pub after_is : after ≡ before ++ told
  pub each : AllByRecursion (IsUnreadAmong name rows) told
  pub whole : (all ≡ true) ⊎ (after ≡ []) → AreTold name 0 rows told

-- ---- of databases

-- the rows that a text shows of the table of a name, in the order of its key
pub record AreShown (name : TableName) (db : Database) (rows : List Row) : Type 0 where
  pub answered : Answers (select_text (kept_as name).columns 0) [] db rows
  pub shown : ShowsTable (kept_as name).stored (kept_as name).cmp (db.trees (kept_as name).tree) rows

-- this tells of a row of a database that no record can hold it
pub record IsUnread (db : Database) (u : Unread) : Type 0 where
  pub rows : List Row
  pub shown : AreShown u.table db rows
  pub unread : IsUnreadAmong u.table rows u

-- what is told of the table of a name: each row that no record can hold
pub record AreToldOf (db : Database) (name : TableName) (told : List Unread) : Type 0 where
  pub rows : List Row
  pub shown : AreShown name db rows
  pub told_are : AreTold name 0 rows told

-- the same of tables, one after the other
abbrev pub AreToldOfAll : Database → List TableName → List Unread → Type 0
AreToldOfAll db [] told = told ≡ []
AreToldOfAll db (name ∷ names) told =
    (first : List Unread) × (later : List Unread) × AreToldOf db name first × AreToldOfAll db names later
    × (told ≡ first ++ later)

-- rows of tables were told that no record can hold; and, where all were wanted or none was told, each of them in order
pub record AddUnread (db : Database) (names : List TableName) (all : Bool) (before after : List Unread) : Type 0 where
  pub told : List Unread
  pub after_is : after ≡ before ++ told
  pub each : AllByRecursion (IsUnread db) told
  pub whole : (all ≡ true) ⊎ (after ≡ []) → AreToldOfAll db names told

-- the tables that every version has, in the order in which they are searched
abbrev pub common_tables : List TableName
common_tables =
    Offices ∷ Staff ∷ Clients ∷ Meta ∷ Charges ∷ Products ∷ Loans ∷ Entries ∷ Receipts ∷ []

-- those of a version; the first lacks those of accounts
abbrev pub tables_searched : Version → List TableName
tables_searched First = common_tables
tables_searched Second = common_tables ++ (Instalments ∷ Shares ∷ [])
tables_searched Third = common_tables ++ (Instalments ∷ Shares ∷ [])

-- each row that is told is one that no record can hold; and none is told only where a record has each row
abbrev pub AreUnread : Version → Database → List Unread → Type 0
AreUnread v db unread =
    AllByRecursion (IsUnread db) unread × (unread ≡ [] → AreToldOfAll db (tables_searched v) unread)
