-- What is told of tables, by what stands there.
use Rattle.std.specs.Prelude.{◌≡◌, ◌≢◌, ◌↔◌, IsTrue, ⊤}
use Rattle.sqlite.specs.Effect.{Database}
use Rattle.sqlite.specs.Files.{HoldsDatabase}
use Rattle.sqlite.specs.Schema.{Schema}
use Rattle.sqlite.specs.Tree.{Trees}
use Rattle.sqlite_catalog.specs.Listing.{IsSound}
use Rattle.sqlite_wal.specs.Recovery.{Image}
use Rattle.mf_store_sql.specs.Tables.{no_schema}
use Rattle.mf_store_schema.specs.Schemas.{IsKnown}
use Rattle.mf_store_schema.specs.Versions.{IsOfVersion}
use Rattle.mf_store_schema.specs.Whole.{HaveRowids}
use Rattle.mf_store_schema.specs.declared.versions.Version.{Version}
use Rattle.mf_store_sound.specs.Files.{HasNoTables}
use Rattle.mf_store_sound.specs.Held.{CanBeOpened}
use Rattle.mf_store_sound.specs.declared.judging.Contents.{Contents}
use Rattle.mf_store_sound.specs.declared.judging.Contents.TheVariants.{Nothing, Known, Others}
use Rattle.mf_store_sound.specs.declared.looking.Finding.{Finding}
use Rattle.mf_store_sound.specs.declared.looking.Finding.TheVariants.{NoTables, KnownTables, OtherTables}

-- whatever the schema
abbrev pub IsAny : Schema → Type 0
IsAny k = ⊤

-- the rowids of the program's tables are in order
abbrev pub HaveOwnRowids : Database → Type 0
HaveOwnRowids db = (v : Version) → IsOfVersion v db.schema → HaveRowids v db.trees

-- There are no tables; or those of a version, with the rows of a sound institution or not; or others.
abbrev pub IsToldOf : Database → Contents → Type 0
IsToldOf db Nothing = db.schema ≡ no_schema
IsToldOf db (Known v sound) = IsOfVersion v db.schema × (IsTrue sound ↔ CanBeOpened v db.trees)
IsToldOf db Others = (db.schema ≢ no_schema) × (¬ IsKnown db.schema)

-- the same of the database that a file held
pub record IsToldOfFile (image : Image) (contents : Contents) : Type 0 where
  pub nothing : HasNoTables image → contents ≡ Nothing
  pub tables : (trees : Trees) (k : Schema) → HoldsDatabase image trees → IsSound k trees
      → IsToldOf (record { schema = k; trees = trees }) contents

-- what is found where the tables hold this
abbrev pub finding_of : Contents → Finding
finding_of Nothing = NoTables
finding_of (Known v sound) = KnownTables v sound
finding_of Others = OtherTables
