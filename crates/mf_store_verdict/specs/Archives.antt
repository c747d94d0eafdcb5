-- The lines of a journal that the bytes of an archive hold.
use Rattle.std.specs.Prelude.{List, Some}
use Rattle.sqlite.specs.Files.{HoldsDatabase}
use Rattle.sqlite.specs.Tree.{Trees}
use Rattle.sqlite_wal.specs.Recovery.{Image}
use Rattle.mf_journal.specs.declared.following.Head.{Head}
use Rattle.mf_model.specs.Institution.{JournalLine}
use Rattle.mf_store_archive.specs.Filing.{HoldsRows}
use Rattle.mf_store_journal.specs.Rows.{journal_rows_in}
use Rattle.mf_store_journal.specs.Written.{CanBeLines}

-- a database file and its log hold an archive of these lines of a journal, which begins here and which the program can
-- have written, and nothing else
pub record HoldsPart (image : Image) (begins : Head) (lines : List JournalLine) : Type 0 where
  pub trees : Trees
  pub holds : HoldsDatabase image trees
  pub rows : HoldsRows trees (journal_rows_in begins (Some lines))
  pub can_be : CanBeLines begins lines
