-- A table as data: its name, its columns with what they hold, and how many of the first are its key.
use Rattle.std.specs.Prelude.{ℕ, zero, suc, Bool, true, false, List, [], ◌∷◌, cond, ◌+◌, map, length, codes, ◌++◌}
use Rattle.sqlite.specs.Table.{Table}
use Rattle.sqlite.specs.Kind as sql
use Rattle.sqlite.specs.Kind.TheVariants as kind
use Rattle.sqlite_schema.specs.declared.schema.Column.{Column}
use Rattle.sqlite_schema.specs.declared.schema.Index.{Index}
use Rattle.mf_store_sql.specs.Tables.{typed_column, table_with, index_on}

-- what a column holds
pub data Field : Type 0 where
  -- a number of 32 bits, without a sign
  Number : Field
  -- a number of 64 bits, with a sign
  Amount : Field
  -- a text in UTF-8
  Text : Field
  -- bytes, whatever they are
  Bytes : Field
  -- these two may be absent
  MaybeNumber : Field
  MaybeText : Field

-- a column's name and what it holds, and whether no two rows may have the same there
pub record Named : Type 0 where
  pub name : List ℕ
  pub field : Field
  pub unique : Bool

-- a table: the first columns, as many as `key` says, are its key
pub record Columns : Type 0 where
  pub name : List ℕ
  pub columns : List Named
  pub key : ℕ

-- a column of a name and a field
abbrev pub named : Field → List ℕ → Named
named field name = record { name = name; field = field; unique = false }

-- one that tells rows apart by itself
abbrev pub unique : Field → List ℕ → Named
unique field name = record { name = name; field = field; unique = true }

-- SQL's type of a field
abbrev pub sql_kind : Field → sql.Kind
sql_kind Number = kind.Integer
sql_kind Amount = kind.Integer
sql_kind Text = kind.Text
sql_kind Bytes = kind.Blob
sql_kind MaybeNumber = kind.Integer
sql_kind MaybeText = kind.Text

-- whether the field is always there
abbrev pub is_always : Field → Bool
is_always Number = true
is_always Amount = true
is_always Text = true
is_always Bytes = true
is_always MaybeNumber = false
is_always MaybeText = false

-- the column as SQL sees it
abbrev pub sql_column : Named → Column
sql_column c = typed_column (sql_kind c.field) (is_always c.field) c.name

-- so many numbers from this one on
abbrev pub upwards : ℕ → ℕ → List ℕ
upwards at zero = []
upwards at (suc n) = at ∷ upwards (suc at) n

-- the places of the columns that tell rows apart by themselves, the first column's being this one
abbrev pub uniques_from : ℕ → List Named → List (List ℕ)
uniques_from at [] = []
uniques_from at (c ∷ cs) = cond c.unique ((at ∷ []) ∷ uniques_from (suc at) cs) (uniques_from (suc at) cs)

-- the table as SQL sees it, in a tree
abbrev pub sql_table : ℕ → Columns → Table
sql_table tree t = table_with tree t.name (map sql_column t.columns) (upwards 1 t.key)
    (uniques_from 1 t.columns ++ upwards 1 t.key ∷ [])

-- an index of a table, by its number from 1
abbrev pub numbered_index : ℕ → List ℕ → ℕ → List ℕ → Index
numbered_index tree name number columns =
    index_on tree (tree + number) (codes "sqlite_autoindex_" ++ name ++ 95 ∷ (48 + number) ∷ []) columns

-- indexes, the first with this number
abbrev pub indexes_from : ℕ → List ℕ → ℕ → List (List ℕ) → List Index
indexes_from tree name number [] = []
indexes_from tree name number (u ∷ us) = numbered_index tree name number u ∷ indexes_from tree name (suc number) us

-- the indexes of a table, in the trees after its own: one for each column that tells rows apart, and that of the key
abbrev pub sql_indexes : ℕ → Columns → List Index
sql_indexes tree t = indexes_from tree t.name 1 (uniques_from 1 t.columns ++ upwards 1 t.key ∷ [])

-- the index of its key
abbrev pub key_index : ℕ → Columns → Index
key_index tree t = numbered_index tree t.name (length (uniques_from 1 t.columns) + 1) (upwards 1 t.key)
