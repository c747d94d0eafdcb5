-- What becomes of a file that a store is opened over, by what the file held.
use Rattle.std.specs.Prelude.{◌≡◌, ◌≢◌, ◌⊎◌, [], ◌∷◌, Some}
use Rattle.mf_base.specs.declared.fault.Fault.{Fault}
use Rattle.mf_base.specs.declared.fault.Fault.TheVariants.{F19}
use Rattle.sqlite.specs.Files.{over_files, file_state, HoldsDatabase}
use Rattle.sqlite.specs.Held.{Held}
use Rattle.sqlite.specs.Schema.{Schema}
use Rattle.sqlite.specs.State.{HasCleanDisk}
use Rattle.sqlite.specs.Tree.{Trees}
use Rattle.sqlite_catalog.specs.Listing.{IsSound}
use Rattle.sqlite_disk.specs.declared.Disk.{Ghosts}
use Rattle.sqlite_store.specs.declared.store.FileStore.{FileStore}
use Rattle.sqlite_wal.specs.Recovery.{Image}
use Rattle.mf_store_sql.specs.Tables.{no_schema}
use Rattle.mf_store_schema.specs.Schemas.{IsKnown}
use Rattle.mf_store_schema.specs.Versions.{schema_at}
use Rattle.mf_store_schema.specs.Writes.{Holds}
use Rattle.mf_store_schema.specs.declared.versions.Version.{Version}
use Rattle.mf_store_schema.specs.declared.versions.Version.TheVariants.{First}
use Rattle.mf_store_values.specs.Flat.{tables_of}
use Rattle.mf_store.specs.Facts.{KnownStore}
use Rattle.mf_store.specs.Stands.{StandsFor, IsClean, Leaves, IsOpen}
use Rattle.mf_store_sound.specs.Files.{HasNoTables}
use Rattle.mf_store_sound.specs.Held.{CanBeOpened, HoldsSoundAt}

-- the file had tables, and not those of a sound institution, each line of whose journal tells a request
pub record HoldsNoneSound (image : Image) : Type 0 where
  pub some : ¬ HasNoTables image
  pub none : (v : Version) (trees : Trees) → HoldsDatabase image trees → ¬ CanBeOpened v trees

module _ {D : Type 0} {g : Ghosts D} (image : Image) where
  -- Where the file held tables of a version, whatever rows stood there, the store is that of the sound institution
  -- whose rows they are. It never held others.
  pub record OpensAsFound (store : KnownStore (FileStore D g)) : Type 0 where
    pub is_open : IsClean over_files store → IsOpen over_files store
    pub known : IsClean over_files store → (trees : Trees) (k : Schema) → HoldsDatabase image trees → IsSound k trees
        → (k ≡ no_schema) ⊎ IsKnown k
    pub sound : IsClean over_files store → (v : Version) (trees : Trees) → HoldsDatabase image trees
        → IsSound (schema_at v) trees → CanBeOpened v trees
    pub stands : IsClean over_files store → (v : Version) (trees : Trees) → HoldsDatabase image trees
        → (held : HoldsSoundAt v trees) → StandsFor over_files store held.institution
    pub leaves : IsClean over_files store → (v : Version) (trees : Trees) → HoldsDatabase image trees
        → (held : HoldsSoundAt v trees) → Leaves over_files store (held.institution ∷ [])

  -- A stop leaves tables of the first version as they were, or those of the second, whole, and all others as they were;
  -- F19 tells that there were tables and none that are opened.
  pub record StaysAsFound (c : Held (FileStore D g)) (fault : Fault) : Type 0 where
    pub unchanged : HasCleanDisk (file_state c) → (v : Version) → v ≢ First → (trees : Trees)
        → HoldsDatabase image trees → IsSound (schema_at v) trees → (left : Trees) → (file_state c).may_leave left
        → left ≡ trees
    pub left : HasCleanDisk (file_state c) → (v : Version) (trees : Trees) → HoldsDatabase image trees
        → (held : HoldsSoundAt v trees)
        → (left : Trees) → (file_state c).may_leave left → left ≡ trees
        ⊎ ((v ≡ First) × Holds left (Some (tables_of held.institution)))
    pub refused : HasCleanDisk (file_state c) → (v : Version) (trees : Trees) → HoldsDatabase image trees
        → IsSound (schema_at v) trees → ¬ HoldsSoundAt v trees
        → (left : Trees) → (file_state c).may_leave left → left ≡ trees
    pub foreign : HasCleanDisk (file_state c) → (trees : Trees) (k : Schema) → HoldsDatabase image trees
        → IsSound k trees → k ≢ no_schema → ¬ IsKnown k
        → (fault ≡ F19) × ((left : Trees) → (file_state c).may_leave left → left ≡ trees)
