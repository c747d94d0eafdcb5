-- What becomes of the tables of a connection that a store is to be over.
use Rattle.std.specs.Prelude.{◌≡◌, ◌≢◌, ◌⊎◌, [], ◌∷◌, false, IsTrue}
use Rattle.mf_base.specs.declared.fault.Fault.{Fault}
use Rattle.mf_base.specs.declared.fault.Fault.TheVariants.{F19, F20}
use Rattle.sqlite.specs.Held.{Held, state}
use Rattle.sqlite.specs.State.{HasCleanDisk}
use Rattle.sqlite_trees.specs.declared.store.Store.{Ghosts}
use Rattle.mf_model.specs.Institution.{Institution}
use Rattle.mf_store_sql.specs.Tables.{no_schema}
use Rattle.mf_store_schema.specs.Schemas.{IsKnown, IsUnchangedUnder}
use Rattle.mf_store_schema.specs.Versions.{IsOfVersion}
use Rattle.mf_store_schema.specs.Whole.{HaveRowids}
use Rattle.mf_store_schema.specs.declared.versions.Version.{Version}
use Rattle.mf_store_schema.specs.declared.versions.Version.TheVariants.{First}
use Rattle.mf_store.specs.Facts.{KnownStore}
use Rattle.mf_store.specs.Stands.{StandsFor, IsClean, Leaves, IsOpen}
use Rattle.mf_store_files.specs.Versions.{IsTabledAt, IsLeftAt}
use Rattle.mf_store_sound.specs.Held.{CanBeOpened}

module _ {S : Type 0} (g : Ghosts S) where
  -- Where the tables are those of a version, whatever rows stand there, the store is that of the sound institution
  -- whose rows they are.
  pub record IsTaken (old : Held S) (store : KnownStore S) : Type 0 where
    pub premise : IsClean g store → HasCleanDisk (state g old)
    pub was_open : IsClean g store → IsTrue (state g old).is_open
    pub is_open : IsClean g store → IsOpen g store
    pub sound : IsClean g store → (v : Version) → IsOfVersion v (state g old).now.schema
        → HaveRowids v (state g old).now.trees → CanBeOpened v (state g old).now.trees
    pub stands : IsClean g store → (v : Version) (i : Institution) → IsTabledAt g v old i → StandsFor g store i
    pub leaves : IsClean g store → (v : Version) (i : Institution) → IsTabledAt g v old i → Leaves g store (i ∷ [])

  -- Tables of the first version are unchanged, or a stop leaves those of the second, whole; those of the others are
  -- unchanged. F19 tells that no sound institution has their rows, that a line of its journal tells no request, or that
  -- they are others.
  pub record IsGivenBack (old new : Held S) (fault : Fault) : Type 0 where
    pub still : HasCleanDisk (state g new) → HasCleanDisk (state g old)
    pub alone : new.in_transaction ≡ false
    pub errors : (fault ≡ F19) ⊎ (fault ≡ F20)
    pub unchanged : (v : Version) → v ≢ First → IsOfVersion v (state g old).now.schema
        → IsUnchangedUnder (IsOfVersion v) (state g old) (state g new)
    pub left : (v : Version) → IsOfVersion v (state g old).now.schema → IsLeftAt g v old new
    pub refused : fault ≡ F19 → HasCleanDisk (state g new) → (v : Version) → IsOfVersion v (state g old).now.schema
        → ¬ CanBeOpened v (state g old).now.trees
    pub foreign : (state g old).now.schema ≢ no_schema → ¬ IsKnown (state g old).now.schema → (fault ≡ F19)
        × (new ≡ old)
