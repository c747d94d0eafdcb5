-- Tables as SQL sees them: columns, the table with its keys, and its indexes.
use Rattle.sqlite.specs.Collation.TheVariants.{Binary}
use Rattle.std.specs.Prelude.{ℕ, Bool, true, false, List, [], map, None}
use Rattle.sqlite.specs.declared.types.Value.TheVariants.{Null}
use Rattle.sqlite.specs.Table.{Table}
use Rattle.sqlite.specs.Schema.{Schema}
use Rattle.sqlite.specs.Kind.{Kind}
use Rattle.sqlite.specs.Kind.TheVariants.{Integer, Text}
use Rattle.sqlite_schema.specs.declared.schema.Column.{Column}
use Rattle.sqlite_schema.specs.declared.schema.Index.{Index}

-- a column of a STRICT table
abbrev pub typed_column : Kind → Bool → List ℕ → Column
typed_column kind not_null name = record {
  name = name;
  kind = kind;
  is_strict = true;
  not_null = not_null;
  default = Null;
  collation = Binary;
}

-- INTEGER NOT NULL, TEXT NOT NULL, INTEGER and TEXT
abbrev pub int : List ℕ → Column
int = typed_column Integer true

-- a column of texts
abbrev pub text : List ℕ → Column
text = typed_column Text true

-- a column of integers that may be NULL
abbrev pub maybe_int : List ℕ → Column
maybe_int = typed_column Integer false

-- a column of texts that may be NULL
abbrev pub maybe_text : List ℕ → Column
maybe_text = typed_column Text false

-- a table with no rule but its keys, in the tree after which the trees of their indexes come
abbrev pub table_with : ℕ → List ℕ → List Column → List ℕ → List (List ℕ) → Table
table_with tree name columns key uniques = record {
  name = name;
  tree = tree;
  columns = columns;
  key = None;
  primary = key;
  uniques = uniques;
  orders = map (λ _. record { digits = 0 }) uniques;
  checks = [];
  references = [];
  computed = [];
  stamps = record { places = []; terms = []; formats = [] };
  is_counted = false;
}

-- the index of a key
abbrev pub index_on : ℕ → ℕ → List ℕ → List ℕ → Index
index_on table tree name key =
    record { name = name; tree = tree; table = table; columns = key; order = record { digits = 0 }; is_unique = true }

-- no table, no index and no view
abbrev pub no_schema : Schema
no_schema = record { tables = []; indexes = []; views = [] }
