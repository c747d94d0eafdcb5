-- A connection to the tables of a version, and what it shows once they are brought to today's.
use Rattle.std.specs.Prelude.{Some, IsTrue}
use Rattle.sqlite.specs.Tree.{Trees}
use Rattle.sqlite.specs.State.{State}
use Rattle.mf_store_sql.specs.Writes.{Serves}
use Rattle.mf_store_schema.specs.Rows.{Lists}
use Rattle.mf_store_schema.specs.Versions.{schema_at}
use Rattle.mf_store_schema.specs.Writes.{schema_of, Holds, HoldsAt}
use Rattle.mf_store_schema.specs.declared.versions.Version.{Version}

-- while the connection is open, its tables are those of this version, and keep these lists
abbrev pub IsKeepingAt : Version → State → Lists → Type 0
IsKeepingAt v s lists = IsTrue s.is_open → Serves (λ _. schema_at v) (HoldsAt v) s.now lists

-- the tables are the program's own and keep these lists, and a stop leaves just that
pub record IsUpgradedTo (s : State) (lists : Lists) : Type 0 where
  pub serves : Serves schema_of Holds s.now (Some lists)
  pub leaves : (trees : Trees) → s.may_leave trees → Holds trees (Some lists)
