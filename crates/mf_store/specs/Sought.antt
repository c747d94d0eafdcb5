-- Rows of a journal that are read by its index.
use Rattle.std.specs.Prelude.{◌≡◌, ◌+◌, ℕ, List, [], ◌++◌, map, filter, length}
use Rattle.sqlite.specs.Order.{Row}
use Rattle.mf_journal.specs.declared.following.Head.{Head}
use Rattle.mf_model.specs.Institution.{JournalLine}
use Rattle.mf_store_sql.specs.Numbered.{shown_filed}
use Rattle.mf_store_journal.specs.Index.{is_line_sought}
use Rattle.mf_store_journal.specs.Rows.{filed_after}
use Rattle.mf_store_journal.specs.declared.index.Sought.{Sought}

-- Of the lines behind a number, those up to a later number aren't sought, and these rows are of the lines behind them:
-- of at least one of them, where there is one.
pub record AreNextRows (s : Sought) (rest : List JournalLine) (number later : ℕ) (rows : List Row) : Type 0 where
  pub skipped : List JournalLine
  pub turn : List JournalLine
  pub left : List JournalLine
  pub are : rest ≡ skipped ++ (turn ++ left)
  pub none : filter (is_line_sought s) skipped ≡ []
  pub count : number + length skipped ≡ later
  pub before : Head
  pub told : rows ≡ map shown_filed (filed_after before turn)
  pub last : rows ≡ [] → (turn ≡ []) × (left ≡ [])
