-- What the calls that write an archive's table come to.
use Rattle.std.specs.Prelude.{◌≡◌, true, List, [], IsTrue}
use Rattle.sqlite.specs.Effect.{Database}
use Rattle.sqlite.specs.State.{State}
use Rattle.mf_store_sql.specs.Numbered.{Filed, KeepsLines}
use Rattle.mf_store_sql.specs.NumberedMeanings.{IsAppended}
use Rattle.mf_store_sql.specs.Tables.{no_schema}
use Rattle.mf_store_schema.specs.Tables.{journal}
use Rattle.mf_store_archive.specs.Texts.{archive_schema}

-- the database has the archive's schema, whose table keeps these rows
pub record KeepsArchive (db : Database) (rows : List Filed) : Type 0 where
  pub schema_is : db.schema ≡ archive_schema
  pub keeps : KeepsLines journal (db.trees 0) rows

-- the table was made where there was none, it has no rows, and the transaction goes on
pub record MakesArchive (old new : State) : Type 0 where
  pub mode : new.in_transaction ≡ true
  pub was_open : IsTrue old.is_open
  pub made : old.now.schema ≡ no_schema → KeepsArchive new.now []

-- the row stands at the end, and the transaction goes on
pub record AppendsRow (row : Filed) (old new : State) : Type 0 where
  pub mode : new.in_transaction ≡ true
  pub was_open : IsTrue old.is_open
  pub put : (rows : List Filed) → KeepsArchive old.now rows
      → IsAppended archive_schema 0 journal row rows old.now new.now
