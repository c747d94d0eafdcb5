-- Tables that are made beside those of a schema, each by its own text.
use Rattle.std.specs.Prelude.{◌≡◌, ◌≢◌, ℕ, true, false, List, [], ◌∷◌, map, Ok, IsTrue}
use Rattle.std.specs.List.{AllByRecursion}
use Rattle.sqlite.specs.Table.{Table}
use Rattle.sqlite.specs.Schema.{Schema}
use Rattle.sqlite.specs.Change.{created, next_tree}
use Rattle.sqlite.specs.Command.TheVariants.{CreateTable}
use Rattle.sqlite.specs.Compile.{table_defined_by}
use Rattle.sqlite.specs.Does.{lacks_sequence}
use Rattle.sqlite.specs.Effect.{Database}
use Rattle.sqlite.specs.Given.{IsPlain}
use Rattle.sqlite.specs.State.{State}
use Rattle.sqlite_catalog.specs.Listing.{IsSound}
use Rattle.sqlite.specs.Listing.{understood}
use Rattle.sqlite.proofs.Callers.{command_of, statement_of}
use Rattle.mf_store_sql.specs.Columns.{Columns, sql_table}
use Rattle.mf_store_sql.specs.Texts.{create_text}

-- the schema once these tables are made after its own
abbrev pub made_after : Schema → List (ℕ × Columns) → Schema
made_after before [] = before
made_after before (t ∷ ts) = made_after (created before (sql_table 0 t.1)) ts

-- under the schema the table's text makes it, with its rows in this tree
pub record IsDefined (before : Schema) (tree : ℕ) (t : Columns) : Type 0 where
  pub command : command_of (understood before (create_text t)) ≡ CreateTable
  pub plain : IsPlain (understood before (create_text t))
  pub table_is : table_defined_by (statement_of (create_text t) (understood before (create_text t)))
      ≡ Ok (sql_table 0 t)
  pub uncounted : lacks_sequence (created before (sql_table 0 t)) ≡ false
  pub tree_is : next_tree before ≡ tree

-- so it is of each table, under the schema with those before it
abbrev pub AreDefined : Schema → List (ℕ × Columns) → Type 0
AreDefined before [] = Unit {0}
AreDefined before (t ∷ ts) = IsDefined before t.0 t.1 × AreDefined (created before (sql_table 0 t.1)) ts

-- the tables are made beside those of the schema: they have no rows, and the others keep theirs
pub record AreMade (before : Schema) (ts : List (ℕ × Columns)) (old new : Database) : Type 0 where
  pub schema_is : new.schema ≡ made_after before ts
  pub sound : IsSound (made_after before ts) new.trees
  pub fresh : AllByRecursion (λ (t : ℕ × Columns). new.trees t.0 ≡ []) ts
  pub others : AllByRecursion (λ (t : Table). new.trees t.tree ≡ old.trees t.tree) before.tables

-- the texts made their tables, whichever these are, and the transaction goes on
pub record Makes (sqls : List (List ℕ)) (old new : State) : Type 0 where
  pub mode : new.in_transaction ≡ true
  pub was_open : sqls ≢ [] → IsTrue old.is_open
  pub made : (before : Schema) (ts : List (ℕ × Columns)) → sqls ≡ map (λ (t : ℕ × Columns). create_text t.1) ts
      → AreDefined before ts → old.now.schema ≡ before → IsSound before old.now.trees
      → AreMade before ts old.now new.now
