-- What files held as they were opened, and connections that show it.
use Rattle.std.specs.Prelude.{◌≡◌, ◌⊎◌, None, IsTrue}
use Rattle.sqlite.specs.Files.{HoldsDatabase, IsNothing, IsEmpty}
use Rattle.sqlite.specs.State.{State}
use Rattle.sqlite.specs.Tree.{Trees}
use Rattle.sqlite_catalog.specs.Listing.{IsSound}
use Rattle.sqlite_wal.specs.Recovery.{Image}
use Rattle.mf_store_sql.specs.Writes.{Serves}
use Rattle.mf_store_schema.specs.Versions.{IsOfVersion}
use Rattle.mf_store_schema.specs.Whole.{HaveRowids}
use Rattle.mf_store_schema.specs.declared.versions.Version.{Version}
use Rattle.mf_store_schema.specs.Writes.{schema_of, Holds}

-- The file is missing or empty, or a stop came while it was made: it holds no database yet, or one with nothing in it.
abbrev pub HasNoTables : Image → Type 0
HasNoTables image = IsNothing image ⊎ ((trees : Trees) × HoldsDatabase image trees × IsEmpty trees)

-- the connection shows the database that the file held, and a stop leaves that
pub record ShowsFile (image : Image) (s : State) : Type 0 where
  pub is_open : IsTrue s.is_open
  pub none : HasNoTables image → Serves schema_of Holds s.now None
  pub holds : (trees : Trees) → HoldsDatabase image trees → s.now.trees ≡ trees
  pub sound : IsSound s.now.schema s.now.trees
  pub rowids : (v : Version) → IsOfVersion v s.now.schema → HaveRowids v s.now.trees
  pub leaves : (left : Trees) → s.may_leave left → left ≡ s.now.trees
