-- What the texts of a table mean under a schema.
use Rattle.std.specs.Prelude.{◌≡◌, ℕ, zero, suc, ◌+◌, ◌-◌, Bool, false, true, cond, ◌||◌, List, [], ◌∷◌, ◌++◌, map}
use Rattle.std.specs.Prelude.{length, Some, slice_get}
use Rattle.sqlite.specs.declared.types.Value.TheVariants.{Null}
use Rattle.sqlite.specs.Term.{Term, lit, col}
use Rattle.sqlite.specs.Source.TheVariants.{Values}
use Rattle.sqlite.specs.Command.TheVariants.{InsertOr, Insert, Select}
use Rattle.sqlite.specs.Given.{IsPlain}
use Rattle.sqlite.specs.Listing.{understood, reads_listing}
use Rattle.sqlite.specs.Schema.{Schema}
use Rattle.sqlite.proofs.Callers.{command_of}
use Rattle.sqlite_schema.specs.declared.command.Conflict.TheVariants.{Abort}
use Rattle.sqlite_value.specs.declared.keys.Key.{Key}
use Rattle.mf_store_sql.specs.Scan.{eq, by, scan}
use Rattle.sqlite.specs.Order.{Row}
use Rattle.sqlite.specs.Tree.{Trees}
use Rattle.sqlite.specs.Program.{overlay}
use Rattle.sqlite_rules.specs.Action.{works}
use Rattle.sqlite_rules.specs.Lists.{Has}
use Rattle.sqlite_rules.specs.Keys.{conflicts}
use Rattle.sqlite_schema.specs.Rules.{agree, guards}
use Rattle.sqlite_schema.specs.declared.schema.Keys.{Keys}
use Rattle.sqlite_value.specs.Keys.{plain}
use Rattle.mf_store_sql.specs.Trees.{are_apart}
use Rattle.mf_store_sql.specs.Columns.{Columns, Named, sql_table, key_index, upwards, is_always}
use Rattle.mf_store_sql.specs.Texts.{select_text, insert_text, upsert_text, names_of}

-- so many columns of a slot, from this one on
abbrev pub columns_of : ℕ → ℕ → ℕ → List Term
columns_of slot at n = map (col slot) (upwards at n)

-- columns of a row, each with the parameter beside it
abbrev pub tests_from : ℕ → ℕ → List Term
tests_from at zero = []
tests_from at (suc n) = eq (col 1 (suc at)) (col 0 at) ∷ tests_from (suc at) n

-- columns of a row in ascending order
abbrev pub order_from : ℕ → ℕ → List (Term × Key)
order_from at zero = []
order_from at (suc n) = by (col 1 (suc at)) ∷ order_from (suc at) n

-- the first columns, so many, are always there
abbrev pub are_always : ℕ → List Named → Bool
are_always zero cs = true
are_always (suc n) [] = false
are_always (suc n) (c ∷ cs) = cond (is_always c.field) (are_always n cs) false

-- no foreign key acts where the table is written
abbrev pub IsQuiet : Schema → ℕ → Type 0
IsQuiet schema tree = (keys : Keys) (olds news : List Row) → works schema keys 0 tree olds news ≡ []

module _ (schema : Schema) (place tree : ℕ) (t : Columns) where
  -- the text that asks for the rows with so many first values is understood so
  pub record Asks (n : ℕ) : Type 0 where
    pub plain : IsPlain (understood schema (select_text t n))
    pub unlisted : reads_listing schema (select_text t n) ≡ false
    pub is : command_of (understood schema (select_text t n)) ≡ Select (record {
      lets = [];
      body = scan tree (tests_from 0 n) (columns_of 1 1 (length t.columns)) (order_from 0 t.key);
    }) (names_of t)

  -- and so is the one that puts a new row
  pub record Adds : Type 0 where
    pub plain : IsPlain (understood schema (insert_text t))
    pub is : command_of (understood schema (insert_text t)) ≡ Insert place
        (Values (lit Null ∷ columns_of 0 0 (length t.columns)) (suc (length t.columns)))

  -- and the one that puts it in place of another
  pub record Puts : Type 0 where
    pub plain : IsPlain (understood schema (upsert_text t))
    pub is : command_of (understood schema (upsert_text t)) ≡ InsertOr place Abort
        (Values (lit Null ∷ columns_of 0 0 (length t.columns)) (suc (length t.columns))) (record {
          target = Some (upwards 1 t.key);
          update = Some (record {
            lets = [];
            body = scan tree (eq (col 1 0) (col 0 (length t.columns)) ∷ []) (col 1 0 ∷ col 1 0
                ∷ columns_of 1 1 t.key ++ columns_of 0 (length t.columns + 2 + t.key) (length t.columns - t.key)) [];
          });
        } ∷ [])

  -- The schema has the table, with the index of its key and no other, and its texts are understood so. Each of these is
  -- a computation over the columns.
  pub record IsKept : Type 0 where
    pub there : slice_get schema.tables place ≡ Some (sql_table tree t)
    pub quiet : IsQuiet schema tree
    pub always : are_always t.key t.columns ≡ true
    pub index : Has schema.indexes (key_index tree t)
    pub guards_it : guards (key_index tree t) (sql_table tree t) ≡ true
    pub alone : (new row : Row) → conflicts (Some (upwards 1 t.key)) schema.indexes (sql_table tree t) new row
        ≡ (agree plain (upwards 1 t.key) row (upwards 1 t.key) new || false)
    pub apart : are_apart place tree schema.tables ≡ true
    pub under : (trees : Trees) → overlay trees [] tree ≡ trees tree
    pub adds : Adds
    pub puts : Puts
    pub finds : Asks t.key
    pub shows : Asks 0
