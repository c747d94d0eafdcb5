-- Tables of whatever rows, and what a text shows of one.
use Rattle.std.specs.Prelude.{◌≡◌, ℕ, Bool, List, map, slice_get, Some}
use Rattle.std.proofs.Common.{sym, subst}
use Rattle.std.specs.declared.cmp.Ordering.{Ordering}
use Rattle.std.specs.declared.cmp.Ordering.TheVariants.{Less}
use Rattle.std.specs.List.{AllByRecursion}
use Rattle.sqlite.specs.Order.{Row}
use Rattle.sqlite.specs.Schema.{Schema}
use Rattle.sqlite.specs.Table.{Table as SqlTable}
use Rattle.sqlite.specs.Tree.{Trees}
use Rattle.sqlite_trees.specs.declared.store.Shape.TheVariants.{Table}
use Rattle.sqlite_trees.specs.Tree.{IsAscending}
use Rattle.sqlite_trees.specs.View.{IsShaped}
use Rattle.mf_store_sql.specs.Columns.{Columns, sql_table}
use Rattle.mf_store_sql.specs.Keep.{Keeps}
use Rattle.mf_store_sql.specs.Meanings.{Asks, IsKept}
use Rattle.mf_store_schema.specs.Tables.{schema_keeping, IsPresent}
use Rattle.mf_store_schema.specs.Versions.{schema_at}
use Rattle.mf_store_schema.specs.declared.versions.Version.{Version}
use Rattle.mf_store_schema.specs.Schemas.{IsKnown}

-- the rows stand under rowids that are integers and rise
abbrev pub HasRowids : List Row → Type 0
HasRowids = IsShaped Table

-- so does each table of a schema
abbrev pub HaveRowidsUnder : Schema → Trees → Type 0
HaveRowidsUnder k trees = AllByRecursion (λ (t : SqlTable). HasRowids (trees t.tree)) k.tables

-- so does each table of a version
abbrev pub HaveRowids : Version → Trees → Type 0
HaveRowids v trees = HaveRowidsUnder (schema_at v) trees

-- the schema has the table at this place, and understands the text that asks for the whole of it
pub record IsAskable (k : Schema) (place tree : ℕ) (t : Columns) : Type 0 where
  pub there : slice_get k.tables place ≡ Some (sql_table tree t)
  pub asks : Asks k place tree t 0

module _ (place tree : ℕ) (t : Columns) where
  -- today's schema does, with or without a journal
  pub asked_present : ((journaled : Bool) → IsKept (schema_keeping journaled) place tree t) → (k : Schema)
      → IsPresent k → IsAskable k place tree t
  asked_present kept k is = subst (λ s. IsAskable s place tree t) (sym is.1)
      (record { there = (kept is.0).there; asks = (kept is.0).shows })

  -- and that of each version, where all of them have the table
  pub asked_known : ((v : Version) → IsAskable (schema_at v) place tree t) → (k : Schema) → IsKnown k
      → IsAskable k place tree t
  asked_known asked k is = subst (λ s. IsAskable s place tree t) (sym is.1) (asked is.0)

-- what a text that asks for the whole table shows of it
pub record ShowsTable {X : Type 0} (stored : X → Row) (cmp : X → X → Ordering) (tree rows : List Row) : Type 0 where
  -- where the table keeps items, the rows are theirs
  pub shows : (items : List X) → Keeps stored cmp tree items → rows ≡ map stored items
  -- a table with its rowids in order keeps the items whose rows are shown, if these rise by key
  pub keeps : HasRowids tree → (items : List X) → IsAscending (λ a b. cmp a b ≡ Less) items → rows ≡ map stored items
      → Keeps stored cmp tree items
