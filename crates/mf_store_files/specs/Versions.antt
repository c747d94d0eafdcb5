-- Connections to tables of a version, and what is left where these could not be brought to today's.
use Rattle.std.specs.Prelude.{◌≡◌, ◌⊎◌, Some, IsTrue}
use Rattle.sqlite.specs.Held.{Held, state}
use Rattle.sqlite.specs.Schema.{Schema}
use Rattle.sqlite.specs.State.{HasCleanDisk}
use Rattle.sqlite.specs.Tree.{Trees}
use Rattle.sqlite_trees.specs.declared.store.Store.{Ghosts}
use Rattle.mf_model.specs.Institution.{Institution}
use Rattle.mf_model.specs.Sound.{IsSound}
use Rattle.mf_store_values.specs.Flat.{tables_of}
use Rattle.mf_store_schema.specs.Calls.{OnlyFaultsShut}
use Rattle.mf_store_schema.specs.Writes.{Holds}
use Rattle.mf_store_schema.specs.Versions.{IsOfVersion}
use Rattle.mf_store_schema.specs.Whole.{HaveRowids}
use Rattle.mf_store_schema.specs.declared.versions.Version.{Version}
use Rattle.mf_store_schema.specs.declared.versions.Version.TheVariants.{First, Second}
use Rattle.mf_store_sound.specs.Schemas.{tables_at}
use Rattle.mf_store_schema.specs.Upgraded.{IsKeepingAt}
use Rattle.mf_store_sound.specs.Held.{HoldsSoundAt, KeepsJournalAt}

-- the tables are those of a version without a journal
abbrev pub LacksJournal : Schema → Type 0
LacksJournal k = IsOfVersion First k ⊎ IsOfVersion Second k

module _ {S : Type 0} (g : Ghosts S) (v : Version) where
  -- The tables are those of the version and hold the institution's rows, and its journal's, and nothing else, and it is
  -- sound. Of a connection that a fault has shut nothing more is known.
  pub record IsTabledAt (h : Held S) (i : Institution) : Type 0 where
    pub sound : IsSound i
    pub keeps : IsKeepingAt v (state g h) (tables_at v i)
    pub journal : IsTrue (state g h).is_open → KeepsJournalAt v (state g h).now.trees i.journal

  -- Nothing is changed, only a fault of the disk shuts the connection, and a stop leaves nothing more than before. But
  -- of tables of the first version that held an institution it may leave those of the second, whole.
  pub record IsLeftAt (old new : Held S) : Type 0 where
    pub premise : HasCleanDisk (state g new) → HasCleanDisk (state g old)
    pub was_open : HasCleanDisk (state g new) → IsTrue (state g new).is_open → IsTrue (state g old).is_open
    pub same : HasCleanDisk (state g new) → IsTrue (state g new).is_open → (state g new).now ≡ (state g old).now
    pub shuts : OnlyFaultsShut (state g old) (state g new)
    pub stop : HasCleanDisk (state g new) → (i : Institution) → IsTabledAt old i → (trees : Trees)
        → (state g new).may_leave trees → (state g old).may_leave trees
        ⊎ ((v ≡ First) × Holds trees (Some (tables_of i)))
    pub refused : HasCleanDisk (state g new) → HaveRowids v (state g old).now.trees → ¬ HoldsSoundAt v
        (state g old).now.trees → (trees : Trees) → (state g new).may_leave trees → (state g old).may_leave trees
