-- What the texts of a numbered table mean under a schema, and what they do.
use Rattle.std.specs.Prelude.{◌≡◌, ◌≢◌, ℕ, pos, true, false, List, [], ◌∷◌, ◌++◌, map, length, Ok, Some, None}
use Rattle.std.specs.Prelude.{slice_get, negsuc, IsTrue, ◌⊎◌, take, filter, Option, option_map}
use Rattle.std.specs.List.{AllByRecursion, last_or}
use Rattle.sqlite.specs.declared.types.Value.TheVariants.{Null, Int}
use Rattle.sqlite.specs.Change.{created, next_tree}
use Rattle.sqlite.specs.Collation.TheVariants.{Binary}
use Rattle.sqlite.specs.Command.TheVariants.{CreateTable, Insert, Select}
use Rattle.sqlite.specs.Compile.{table_defined_by}
use Rattle.sqlite.specs.Does.{lacks_sequence}
use Rattle.sqlite.specs.Effect.{Database}
use Rattle.sqlite.specs.Given.{IsPlain}
use Rattle.sqlite.specs.Listing.{understood, reads_listing}
use Rattle.sqlite.specs.Order.{Row}
use Rattle.sqlite.specs.Program.{overlay}
use Rattle.sqlite.specs.Query.{Query, inner, end, counted}
use Rattle.sqlite.specs.Schema.{Schema}
use Rattle.sqlite.specs.Source.TheVariants.{Query as Asked}
use Rattle.sqlite.specs.State.{State, IsRolledBack}
use Rattle.sqlite.specs.Table.{Table}
use Rattle.sqlite.specs.Term.{Term, lit, col, op1, op2}
use Rattle.sqlite.specs.Tree.{Trees}
use Rattle.sqlite.proofs.Callers.{command_of, statement_of}
use Rattle.sqlite_catalog.specs.Listing.{IsSound}
use Rattle.sqlite_sql.specs.declared.ops.BinaryOp.TheVariants.{Compare}
use Rattle.sqlite_sql.specs.declared.ops.CompareOp.TheVariants.{Gt, Ge}
use Rattle.sqlite_sql.specs.declared.ops.UnaryOp.TheVariants.{Not}
use Rattle.sqlite_value.specs.declared.keys.Key.{Key}
use Rattle.mf_store_sql.specs.Meanings.{columns_of, IsQuiet}
use Rattle.mf_store_sql.specs.Numbered.{Numbered, with_number, numbered_table, create_numbered, append_text, above_text}
use Rattle.mf_store_sql.specs.Numbered.{last_text, is_above, AreBelow, Filed, id_of, values_in, shown_filed}
use Rattle.mf_store_sql.specs.Numbered.{KeepsLines}
use Rattle.mf_store_sql.specs.Rows.{AreKeepable}
use Rattle.mf_store_sql.specs.Scan.{by, scan, cut_at}
use Rattle.mf_store_sql.specs.Texts.{names_of}
use Rattle.mf_store_sql.specs.Trees.{are_apart}

-- the number of a row is above the first parameter
abbrev pub number_above : Term
number_above = op2 (Compare Gt Binary) (col 1 0) (col 0 0)

-- it is that or above
abbrev pub number_from : Term
number_from = op2 (Compare Ge Binary) (col 1 0) (col 0 0)

-- the highest number first
abbrev pub by_falling : Term × Key
by_falling = (col 1 0, record { collation = Binary; descending = true })

-- what is shown of a row with so many columns after its number
abbrev pub shown_terms : ℕ → List Term
shown_terms n = col 1 0 ∷ columns_of 1 2 n

-- what is put: the number, NULL in its own place, and so many values
abbrev pub put_terms : ℕ → List Term
put_terms n = col 0 0 ∷ lit Null ∷ columns_of 0 1 n

-- the terms, once, where no row of the tree has the number or one above it
abbrev pub once_if_last : ℕ → List Term → Query
once_if_last tree terms = record {
  from = counted 1 (inner tree end) (number_from ∷ []) end;
  filter = op1 Not (col 1 0) ∷ [];
  group = None;
  project = terms;
  distinct = false;
  collations = map (λ _. Binary) terms;
  order = [];
  limit = lit (Int (negsuc 0));
  offset = lit (Int (pos 0));
}

-- the rows above a number, as many as the second parameter says
abbrev pub rows_above : ℕ → ℕ → Query
rows_above tree n =
    record (scan tree (number_above ∷ []) (shown_terms n) (by (col 1 0) ∷ [])) { limit = col 0 1 }

-- the row with the highest number
abbrev pub row_with_highest : ℕ → ℕ → Query
row_with_highest tree n = cut_at 1 (scan tree [] (shown_terms n) (by_falling ∷ []))

module _ (schema : Schema) (place tree : ℕ) (t : Numbered) where
  -- the text that puts a row at the end is understood so
  pub record Appends : Type 0 where
    pub plain : IsPlain (understood schema (append_text t))
    pub is : command_of (understood schema (append_text t)) ≡ Insert place
        (Asked (record { lets = []; body = once_if_last tree (put_terms (length t.columns)) }))

  -- and so is a text that shows what a query of it gives
  pub record ShowsAs (sql : List ℕ) (q : Query) : Type 0 where
    pub plain : IsPlain (understood schema sql)
    pub unlisted : reads_listing schema sql ≡ false
    pub is : command_of (understood schema sql) ≡ Select (record { lets = []; body = q }) (names_of (with_number t))

  -- The schema has the table, and its texts are understood so. Each of these is a computation over the columns.
  pub record IsNumbered : Type 0 where
    pub there : slice_get schema.tables place ≡ Some (numbered_table tree t)
    pub quiet : IsQuiet schema tree
    pub apart : are_apart place tree schema.tables ≡ true
    pub under : (trees : Trees) → overlay trees [] tree ≡ trees tree
    pub appends : Appends
    pub above : ShowsAs (above_text t) (rows_above tree (length t.columns))
    pub last : ShowsAs (last_text t) (row_with_highest tree (length t.columns))

-- under the schema the table's text makes it, with its rows in this tree
pub record IsNumberedBy (before : Schema) (tree : ℕ) (t : Numbered) : Type 0 where
  pub command : command_of (understood before (create_numbered t)) ≡ CreateTable
  pub plain : IsPlain (understood before (create_numbered t))
  pub table_is : table_defined_by (statement_of (create_numbered t) (understood before (create_numbered t)))
      ≡ Ok (numbered_table 0 t)
  pub uncounted : lacks_sequence (created before (numbered_table 0 t)) ≡ false
  pub tree_is : next_tree before ≡ tree

-- the table is made beside those of the schema: it has no rows, and the others keep theirs
pub record IsMade (before : Schema) (tree : ℕ) (t : Numbered) (old new : Database) : Type 0 where
  pub schema_is : new.schema ≡ created before (numbered_table 0 t)
  pub sound : IsSound (created before (numbered_table 0 t)) new.trees
  pub fresh : KeepsLines t (new.trees tree) []
  pub others : AllByRecursion (λ (other : Table). new.trees other.tree ≡ old.trees other.tree) before.tables

-- the text made its table, whichever this is, and the transaction goes on
pub record MakesNumbered (sql : List ℕ) (old new : State) : Type 0 where
  pub mode : new.in_transaction ≡ true
  pub was_open : IsTrue old.is_open
  pub made : (before : Schema) (tree : ℕ) (t : Numbered) → sql ≡ create_numbered t → IsNumberedBy before tree t
      → old.now.schema ≡ before → IsMade before tree t old.now new.now

-- the line stands at the end: its number is above all that were there, and the other tables are as they were
pub record IsAppended (schema : Schema) (tree : ℕ) (t : Numbered) (line : Filed) (lines : List Filed)
    (old new : Database) : Type 0 where
  pub below : AreBelow id_of (id_of line) lines
  pub schema_is : new.schema ≡ schema
  pub sound : IsSound schema new.trees
  pub keeps : KeepsLines t (new.trees tree) (lines ++ line ∷ [])
  pub others : AllByRecursion (λ (other : Table). other.tree ≢ tree → new.trees other.tree ≡ old.trees other.tree)
      schema.tables

-- what the parameters are of
abbrev pub AreOfFiled : Row → Filed → Type 0
AreOfFiled params line = params ≡ Int (id_of line) ∷ values_in line

-- whatever lines a table kept that the text is of, they are followed by that of the parameters
pub record AppendsLine (sql : List ℕ) (params : Row) (old new : State) : Type 0 where
  pub mode : new.in_transaction ≡ true
  pub was_open : IsTrue old.is_open
  pub appended : (schema : Schema) (place tree : ℕ) (t : Numbered) (line : Filed) (lines : List Filed)
      → sql ≡ append_text t → AreOfFiled params line → IsNumbered schema place tree t
      → AreKeepable t.columns (values_in line) → old.now.schema ≡ schema → KeepsLines t (old.now.trees tree) lines
      → IsAppended schema tree t line lines old.now new.now

-- each table has the rows that it had
pub record IsLeft (schema : Schema) (old new : Database) : Type 0 where
  pub schema_is : new.schema ≡ schema
  pub same : AllByRecursion (λ (t : Table). new.trees t.tree ≡ old.trees t.tree) schema.tables

-- the transaction is undone, or no table is changed where the text is that of one
abbrev pub LeavesLines : List ℕ → Row → State → State → Type 0
LeavesLines sql params old new = IsRolledBack old new ⊎ ((schema : Schema) (place tree : ℕ) (t : Numbered)
    → sql ≡ append_text t → IsNumbered schema place tree t → old.now.schema ≡ schema
    → IsLeft schema old.now new.now)

-- whatever lines a table keeps that the text is of, the rows are those above a number, the lowest first, up to so many
pub record ShowsAbove (sql : List ℕ) (number most : ℕ) (db : Database) (rows : List Row) : Type 0 where
  pub above : (schema : Schema) (place tree : ℕ) (t : Numbered) (lines : List Filed) → sql ≡ above_text t
      → IsNumbered schema place tree t → db.schema ≡ schema → KeepsLines t (db.trees tree) lines
      → rows ≡ map shown_filed (take most (filter (is_above id_of (pos number)) lines))

-- whatever lines a table keeps that the text is of, the row is the last of them
pub record ShowsLast (sql : List ℕ) (db : Database) (row : Option Row) : Type 0 where
  pub last : (schema : Schema) (place tree : ℕ) (t : Numbered) (lines : List Filed) → sql ≡ last_text t
      → IsNumbered schema place tree t → db.schema ≡ schema → KeepsLines t (db.trees tree) lines
      → row ≡ option_map shown_filed (last_or None lines)
