-- Where the journal stands that a database keeps.
use Rattle.std.specs.Prelude.{◌≡◌, List, Option, Some, None}
use Rattle.sqlite.specs.Effect.{Database}
use Rattle.sqlite.specs.Files.{HoldsDatabase}
use Rattle.sqlite.specs.Schema.{Schema}
use Rattle.sqlite.specs.Tree.{Trees}
use Rattle.sqlite_catalog.specs.Listing.{IsSound}
use Rattle.sqlite_wal.specs.Recovery.{Image}
use Rattle.mf_journal.specs.declared.following.Head.{Head}
use Rattle.mf_model.specs.Institution.{JournalLine}
use Rattle.mf_store_journal.specs.Reading.{IsThird}
use Rattle.mf_store_journal.specs.Rows.{head_with_all}
use Rattle.mf_store_journal.specs.Written.{KeepsJournalFrom}

-- a journal with these lines, which begins here, stands so
abbrev pub StandsSo : Option Head → Head → List JournalLine → Type 0
StandsSo None begins lines = ⊥
StandsSo (Some head) begins lines = head ≡ head_with_all begins lines

-- It is told where the journal stands, if the tables of the third version keep one. Else nothing is.
pub record IsHeadOf (db : Database) (told : Option Head) : Type 0 where
  pub kept : IsThird db.schema → (begins : Head) (lines : List JournalLine) → KeepsJournalFrom begins db.trees lines
      → StandsSo told begins lines
  pub third : ¬ IsThird db.schema → told ≡ None

-- the same of the database that a file held
pub record IsHeadOfFile (image : Image) (told : Option Head) : Type 0 where
  pub tables : (trees : Trees) (k : Schema) → HoldsDatabase image trees → IsSound k trees
      → IsHeadOf (record { schema = k; trees = trees }) told
