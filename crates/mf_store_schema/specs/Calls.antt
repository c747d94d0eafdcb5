-- What a reading call shows and leaves.
use Rattle.std.specs.Prelude.{◌≡◌, ◌≤◌, ◌<◌, ◌-◌, ◌^◌, ℕ, List, Some, IsTrue}
use Rattle.sqlite.specs.Tree.{Trees}
use Rattle.sqlite.specs.Order.{Row}
use Rattle.sqlite.specs.State.{State, HasCleanDisk}
use Rattle.mf_store_sql.specs.Queries.{Answers}
use Rattle.mf_store_sql.specs.Writes.{Serves}
use Rattle.mf_store_schema.specs.Tables.{IsPresent}
use Rattle.mf_store_schema.specs.Rows.{Lists}
use Rattle.mf_store_schema.specs.Writes.{schema_of, Holds}

-- The disk has failed so often by now, or more often; and if no more often, the connection is open.
pub record IsOpenUpTo (faults : ℕ) (s : State) : Type 0 where
  pub counted : faults ≤ s.faults
  pub is_open : HasCleanDisk s → s.faults ≤ faults → IsTrue s.is_open

-- Only a fault of the disk shuts the connection: one that is open up to so many faults stays so. They are counted in 64
-- bits, and the count stays at its greatest.
abbrev pub OnlyFaultsShut : State → State → Type 0
OnlyFaultsShut old new = (faults : ℕ) → faults < 2 ^ 64 - 1 → IsOpenUpTo faults old → IsOpenUpTo faults new

-- Nothing is changed where the tables are this program's, and then a stop leaves nothing that it could not leave
-- before.
pub record IsAsBefore (old new : State) : Type 0 where
  pub premise : HasCleanDisk new → HasCleanDisk old
  pub was_open : HasCleanDisk new → IsTrue new.is_open → IsTrue old.is_open
  pub same : HasCleanDisk new → IsTrue new.is_open → IsPresent old.now.schema → new.now ≡ old.now
  pub shuts : OnlyFaultsShut old new
  pub stop : HasCleanDisk new → (IsTrue old.is_open → IsPresent old.now.schema) → (trees : Trees) → new.may_leave trees
      → old.may_leave trees

-- while the connection is open, the tables keep these lists
abbrev pub IsKeeping : State → Lists → Type 0
IsKeeping s lists = IsTrue s.is_open → Serves schema_of Holds s.now (Some lists)

-- the connection is open, and the rows are what the text shows of its tables
pub record Shows (s : State) (sql : List ℕ) (params : Row) (rows : List Row) : Type 0 where
  pub is_open : IsTrue s.is_open
  pub answers : Answers sql params s.now rows
