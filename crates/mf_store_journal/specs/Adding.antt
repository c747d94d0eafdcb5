-- What the calls that add to the table come to.
use Rattle.std.specs.Prelude.{◌≡◌, ◌⊎◌, ◌≤◌, true, List, [], ◌∷◌, ◌++◌, Some, IsTrue}
use Rattle.sqlite.specs.Effect.{Database}
use Rattle.sqlite.specs.State.{State, IsRolledBack}
use Rattle.mf_store_sql.specs.Numbered.{Filed, KeepsLines}
use Rattle.mf_store_sql.specs.NumberedMeanings.{IsMade, IsAppended, IsLeft}
use Rattle.mf_model.specs.Institution.{JournalLine}
use Rattle.mf_journal.specs.Chain.{line_of_row}
use Rattle.mf_journal.specs.declared.chain.JournalRow.{JournalRow}
use Rattle.mf_journal.specs.declared.following.Head.{Head}
use Rattle.mf_store_schema.specs.Tables.{schema, journal, third_schema}
use Rattle.mf_store_journal.specs.Rows.{journal_rows_in, head_with, head_with_all}

-- the database has the schema with the journal, whose table keeps these lines
pub record KeepsJournal (db : Database) (lines : List Filed) : Type 0 where
  pub schema_is : db.schema ≡ third_schema
  pub keeps : KeepsLines journal (db.trees 23) lines

-- the table was made beside today's, and the transaction goes on
pub record MakesJournal (old new : State) : Type 0 where
  pub mode : new.in_transaction ≡ true
  pub was_open : IsTrue old.is_open
  pub made : old.now.schema ≡ schema → IsMade schema 23 journal old.now new.now

-- the line stands at the end, and the transaction goes on
pub record PutsLine (line : Filed) (old new : State) : Type 0 where
  pub mode : new.in_transaction ≡ true
  pub was_open : IsTrue old.is_open
  pub put : (lines : List Filed) → KeepsJournal old.now lines
      → IsAppended third_schema 23 journal line lines old.now new.now

-- no line was put: the transaction is undone, or each table has the rows that it had
abbrev pub LeavesJournal : State → State → Type 0
LeavesJournal old new = IsRolledBack old new ⊎ (old.now.schema ≡ third_schema → IsLeft third_schema old.now new.now)

-- The journal that stood at the head has the line after its own, on a day that isn't earlier; it stands at the next
-- head now.
pub record AddsLine (head : Head) (row : JournalRow) (next : Head) (old new : State) : Type 0 where
  pub mode : new.in_transaction ≡ true
  pub was_open : IsTrue old.is_open
  pub next_is : next ≡ head_with head (line_of_row row)
  pub not_earlier : head.day ≤ row.day
  pub added : (beginning : Head) (lines : List JournalLine) → head ≡ head_with_all beginning lines
      → KeepsJournal old.now (journal_rows_in beginning (Some lines))
      → KeepsJournal new.now (journal_rows_in beginning (Some (lines ++ line_of_row row ∷ [])))
