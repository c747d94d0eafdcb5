-- The schemas that files of this program have, and a connection that nothing changes under some of them.
use Rattle.std.specs.Prelude.{◌≡◌, IsTrue}
use Rattle.sqlite.specs.Schema.{Schema}
use Rattle.sqlite.specs.State.{State, HasCleanDisk}
use Rattle.sqlite.specs.Tree.{Trees}
use Rattle.mf_store_schema.specs.Calls.{OnlyFaultsShut}
use Rattle.mf_store_schema.specs.Versions.{IsOfVersion}
use Rattle.mf_store_schema.specs.declared.versions.Version.{Version}

-- the schema is that of some version
abbrev pub IsKnown : Schema → Type 0
IsKnown k = (v : Version) × IsOfVersion v k

-- Nothing is changed where the tables are those of such a schema, and then a stop leaves nothing that it could not
-- leave before.
pub record IsUnchangedUnder (IsOne : Schema → Type 0) (old new : State) : Type 0 where
  pub premise : HasCleanDisk new → HasCleanDisk old
  pub was_open : HasCleanDisk new → IsTrue new.is_open → IsTrue old.is_open
  pub same : HasCleanDisk new → IsTrue new.is_open → IsOne old.now.schema → new.now ≡ old.now
  pub shuts : OnlyFaultsShut old new
  pub stop : HasCleanDisk new → (IsTrue old.is_open → IsOne old.now.schema) → (trees : Trees) → new.may_leave trees
      → old.may_leave trees
