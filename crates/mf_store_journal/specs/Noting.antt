-- The writes of a commit, and with them what becomes of the journal.
use Rattle.std.specs.Prelude.{◌≡◌, true, List, [], ◌∷◌, ◌++◌, Option, None, Some}
use Rattle.mf_store_sql.specs.Numbered.{Filed}
use Rattle.mf_store_schema.specs.Rows.{Lists}
use Rattle.mf_store_schema.specs.Writes.{FitsLists, after_write, are_some, lists_changed}
use Rattle.mf_store_journal.specs.Rows.{filed_beginning, filed_kept}
use Rattle.mf_store_journal.specs.declared.noting.NotedWrite.{NotedWrite}
use Rattle.mf_store_journal.specs.declared.noting.NotedWrite.TheVariants.{Put, Begin, AddLine}

-- the lists with these rows of the journal
abbrev pub with_journal : List Filed → Lists → Lists
with_journal rows lists = record lists { journal = rows }

-- the lists with a row more of the journal
abbrev pub journal_put : Filed → Lists → Lists
journal_put row lists = with_journal (lists.journal ++ row ∷ []) lists

-- a journal begins where there are tables and none is kept, and gets a line where one is kept
abbrev pub FitsNoted : NotedWrite → Option Lists → Type 0
FitsNoted (Put write) lists = FitsLists write.now lists
FitsNoted (Begin head) None = ⊥
FitsNoted (Begin head) (Some lists) = lists.journal ≡ []
FitsNoted (AddLine kept) None = ⊥
FitsNoted (AddLine kept) (Some lists) = are_some lists.journal ≡ true

-- the lists after a write
abbrev pub after_noted_write : NotedWrite → Option Lists → Option Lists
after_noted_write (Put write) lists = after_write write.now lists
after_noted_write (Begin head) lists = lists_changed (journal_put (filed_beginning head)) lists
after_noted_write (AddLine kept) lists = lists_changed (journal_put (filed_kept kept)) lists
