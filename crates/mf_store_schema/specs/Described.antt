-- The schema that words describe.
use Rattle.std.specs.Borrow.{Bor}
use Rattle.std.specs.Prelude.{◌≡◌, ℕ, [], List, map, true, false}
use Rattle.sqlite.specs.Schema.{Schema}
use Rattle.sqlite.specs.Table.{Table}
use Rattle.sqlite_schema.specs.declared.schema.Column.{Column}
use Rattle.sqlite_schema.specs.declared.schema.Index.{Index}
use Rattle.sqlite_schema.specs.declared.schema.Stamps.{Stamps}
use Rattle.sqlite_value.specs.declared.keys.Order.{Order}
use Rattle.mf_store_sql.specs.Tables.{int, text, maybe_int, maybe_text, typed_column, table_with, index_on}
use Rattle.sqlite.specs.Kind.TheVariants as kind
use Rattle.mf_store_schema.specs.declared.words.ColumnWords.{ColumnWords}
use Rattle.mf_store_schema.specs.declared.words.ColumnWords.TheVariants.{Int, Text, Bytes, MaybeInt, MaybeText}
use Rattle.mf_store_schema.specs.declared.words.TableWords.{TableWords}
use Rattle.mf_store_schema.specs.declared.words.IndexWords.{IndexWords}

-- a column with this name and type, of a STRICT table
abbrev pub column_in_words : ColumnWords → Column
column_in_words (Int name) = int name.now
column_in_words (Text name) = text name.now
column_in_words (Bytes name) = typed_column kind.Blob true name.now
column_in_words (MaybeInt name) = maybe_int name.now
column_in_words (MaybeText name) = maybe_text name.now

-- a table with these columns and no rule but its keys
abbrev pub table_in_words : TableWords → Table
table_in_words w = record (table_with w.tree w.name.now (map column_in_words w.columns.now) w.primary.now
    (map (λ key. key.now) w.uniques.now)) { key = w.rowid }

-- the plain order, for each key
abbrev pub plain_orders : List (Bor (List ℕ)) → List Order
plain_orders keys = map (λ _. record { digits = 0 }) (map (λ key. key.now) keys)

-- the table has these keys, each in the plain order
pub record HasKeys (w : TableWords) (found : Table) : Type 0 where
  pub rowid : found.key ≡ w.rowid
  pub primary : found.primary ≡ w.primary.now
  pub uniques : found.uniques ≡ map (λ key. key.now) w.uniques.now
  pub orders : found.orders ≡ plain_orders w.uniques.now

-- no default reads the time
abbrev pub no_stamps : Stamps
no_stamps = record { places = []; terms = []; formats = [] }

-- the table has no rule but its keys
pub record HasNoRules (found : Table) : Type 0 where
  pub checks : found.checks ≡ []
  pub references : found.references ≡ []
  pub computed : found.computed ≡ []
  pub stamps : found.stamps ≡ no_stamps
  pub counted : found.is_counted ≡ false

-- the index of a key
abbrev pub index_in_words : IndexWords → Index
index_in_words w = index_on w.table w.tree w.name.now w.key.now

-- these tables and indexes, and no view
abbrev pub schema_in_words : List TableWords → List IndexWords → Schema
schema_in_words tables indexes =
    record { tables = map table_in_words tables; indexes = map index_in_words indexes; views = [] }
