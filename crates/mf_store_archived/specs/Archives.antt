-- The rows of an archive, and the lines that they tell.
use Rattle.std.specs.Prelude.{◌≡◌, List, map, Some}
use Rattle.sqlite.specs.Order.{Row}
use Rattle.mf_journal.specs.declared.following.Head.{Head}
use Rattle.mf_model.specs.Institution.{JournalLine}
use Rattle.mf_store_sql.specs.Numbered.{Filed, shown_filed}
use Rattle.mf_store_journal.specs.Checking.{AreFollowing}
use Rattle.mf_store_journal.specs.Rows.{head_with_all, journal_rows_in}
use Rattle.mf_store_journal.specs.Written.{CanBeLines}
use Rattle.mf_store_archived.specs.declared.archive.Archive.{Archive}

-- the rows, as they are shown, follow on one another from a head, and the journal stands so after them
pub record AreShown (h : Head) (rows : List Row) (next : Head) : Type 0 where
  pub filed : List Filed
  pub rows_are : rows ≡ map shown_filed filed
  pub follow : AreFollowing h filed next

-- the rows tell these lines of a journal that begins here and that the program can have written
pub record Tells (begins : Head) (lines : List JournalLine) (rows : List Row) : Type 0 where
  pub can_be : CanBeLines begins lines
  pub rows_are : rows ≡ map shown_filed (journal_rows_in begins (Some lines))

-- the rows are those of a journal that begins and stands so
pub record AreRowsOf (begins ends : Head) (rows : List Row) : Type 0 where
  pub lines : List JournalLine
  pub tells : Tells begins lines rows
  pub ends_are : ends ≡ head_with_all begins lines

-- an archive, as it was read, has these lines
pub record IsPart (a : Archive) (lines : List JournalLine) : Type 0 where
  pub tells : Tells a.begins lines a.rows.items
  pub ends : a.ends ≡ head_with_all a.begins lines
