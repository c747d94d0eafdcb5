-- Tables whose rows are numbered: the number is SQL's rowid, so a table is one tree and has no index.
use Rattle.std.specs.Prelude.{ℕ, ℤ, ◌<ℤ◌, Bool, false, List, [], ◌∷◌, ◌++◌, map, length, codes, Some}
use Rattle.std.specs.List.{AllByRecursion}
use Rattle.std.specs.Ordering.{is_lt, int_cmp}
use Rattle.sqlite.specs.declared.types.Value.TheVariants.{Null, Int}
use Rattle.sqlite.specs.Kind.TheVariants.{Integer}
use Rattle.sqlite.specs.Order.{Row}
use Rattle.sqlite.specs.Table.{Table}
use Rattle.sqlite_keyed.specs.Keyed.{IsKeyedBy}
use Rattle.mf_store_sql.specs.Columns.{Columns, Named, Number, named, sql_column, upwards}
use Rattle.mf_store_sql.specs.Keep.{AreAlike}
use Rattle.mf_store_sql.specs.Rows.{AreKeepable}
use Rattle.mf_store_sql.specs.Tables.{typed_column, table_with}
use Rattle.mf_store_sql.specs.Texts.{listed, definitions, names_of, parameter}

-- a table: its name, that of the number, and the columns after it
pub record Numbered : Type 0 where
  pub name : List ℕ
  pub number : List ℕ
  pub columns : List Named

-- all of its columns, the number first
abbrev pub with_number : Numbered → Columns
with_number t = record { name = t.name; columns = named Number t.number ∷ t.columns; key = 1 }

-- the table as SQL sees it, in a tree
abbrev pub numbered_table : ℕ → Numbered → Table
numbered_table tree t = record (table_with tree t.name (typed_column Integer false t.number
    ∷ map sql_column t.columns) (0 ∷ []) []) { key = Some 0 }

-- ---- its texts

-- makes the table
abbrev pub create_numbered : Numbered → List ℕ
create_numbered t = codes "CREATE TABLE " ++ t.name ++ codes " ("
    ++ listed ((t.number ++ codes " INTEGER PRIMARY KEY") ∷ definitions 0 t.columns) ++ codes ") STRICT"

-- adds a row, and none where a row has its number or one above it
abbrev pub append_text : Numbered → List ℕ
append_text t = codes "INSERT INTO " ++ t.name ++ codes " SELECT "
    ++ listed (map parameter (upwards 1 (length (with_number t).columns)))
    ++ codes " WHERE NOT EXISTS (SELECT 1 FROM " ++ t.name ++ codes " WHERE " ++ t.number ++ codes " >= ?1)"

-- shows rows, whichever of them
abbrev pub shows_text : Numbered → List ℕ
shows_text t = codes "SELECT " ++ listed (names_of (with_number t)) ++ codes " FROM " ++ t.name

-- shows the rows above a number, the lowest first, and no more than so many
abbrev pub above_text : Numbered → List ℕ
above_text t = shows_text t ++ codes " WHERE " ++ t.number ++ codes " > ?1 ORDER BY " ++ t.number ++ codes " LIMIT ?2"

-- shows the row with the highest number
abbrev pub last_text : Numbered → List ℕ
last_text t = shows_text t ++ codes " ORDER BY " ++ t.number ++ codes " DESC LIMIT 1"

-- ---- what it keeps

module _ {X : Type 0} (number : X → ℤ) (stored : X → Row) where
  -- a row as the tree has it: its number is the rowid, and in the number's own place is NULL
  abbrev pub numbered_row : X → Row
  numbered_row x = Int (number x) ∷ Null ∷ stored x

  -- a row as it is shown
  abbrev pub shown_row : X → Row
  shown_row x = Int (number x) ∷ stored x

  -- The rows of the tree are the items, each under its number, and the numbers rise. A row may lack columns at the end
  -- that are NULL, as those from before ADD COLUMN do.
  pub record KeepsById (tree : List Row) (items : List X) : Type 0 where
    pub rows : AreAlike tree (map numbered_row items)
    pub rising : IsKeyedBy number items

-- the number of an item is above this one
abbrev pub is_above : {X : Type 0} → (X → ℤ) → ℤ → X → Bool
is_above number n x = is_lt (int_cmp n (number x))

-- each item's number is below this one
abbrev pub AreBelow : {X : Type 0} → (X → ℤ) → ℤ → List X → Type 0
AreBelow number n = AllByRecursion (λ x. number x <ℤ n)

-- a line of any such table: its number, and the values after it
abbrev pub Filed : Type 0
Filed = ℤ × Row

-- the number of a line
abbrev pub id_of : Filed → ℤ
id_of line = line.0

-- the values after it
abbrev pub values_in : Filed → Row
values_in line = line.1

-- the line of an item
abbrev pub filed_as : {X : Type 0} → (X → ℤ) → (X → Row) → X → Filed
filed_as number stored x = (number x, stored x)

-- a line as it is shown
abbrev pub shown_filed : Filed → Row
shown_filed = shown_row id_of values_in

-- the tree of a table keeps these lines, each with values that its columns can keep
pub record KeepsLines (t : Numbered) (tree : List Row) (lines : List Filed) : Type 0 where
  pub kept : KeepsById id_of values_in tree lines
  pub fitting : AllByRecursion (λ line. AreKeepable t.columns (values_in line)) lines
