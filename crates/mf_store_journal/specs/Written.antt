-- Journals that the program can have written.
use Rattle.std.specs.Prelude.{◌≡◌, ◌≤◌, ◌<◌, ◌+◌, ◌^◌, ℕ, List, [], ◌∷◌, length, Option, None, Some}
use Rattle.std.specs.List.{AllByRecursion}
use Rattle.sqlite.specs.Tree.{Trees}
use Rattle.mf_model.specs.Institution.{JournalLine}
use Rattle.mf_journal.specs.declared.following.Head.{Head}
use Rattle.mf_store_sql.specs.Numbered.{KeepsLines}
use Rattle.mf_store_schema.specs.Tables as table
use Rattle.mf_store_journal.specs.Rows.{head_with_all, journal_rows_in}
use Rattle.mf_store_journal.specs.Checking.{CanBegin}
use Rattle.mf_store_journal.specs.declared.journal.Journal.{Journal}

-- no day is earlier than the one before it, and the first is not earlier than this one
abbrev pub DaysRise : ℕ → List JournalLine → Type 0
DaysRise day [] = Unit {0}
DaysRise day (l ∷ ls) = (day ≤ l.day) × DaysRise l.day ls

-- the line's numbers have room in the table
pub record HasRoom (l : JournalLine) : Type 0 where
  pub day : l.day < 2 ^ 32
  pub office : l.office < 2 ^ 32
  pub staff : l.staff < 2 ^ 32
  pub named_office : l.named_office < 2 ^ 32
  pub named_loan : l.named_loan < 2 ^ 32

-- these can be the lines of a journal that begins here: their days rise, and all numbers have room in the table
pub record CanBeLines (begins : Head) (lines : List JournalLine) : Type 0 where
  pub can_begin : CanBegin begins
  pub days : DaysRise begins.day lines
  pub room : AllByRecursion HasRoom lines
  pub numbers : begins.number + length lines < 2 ^ 32

-- the table keeps these lines of a journal that begins here
pub record KeepsJournalFrom (begins : Head) (trees : Trees) (lines : List JournalLine) : Type 0 where
  pub lines_can_be : CanBeLines begins lines
  pub keeps : KeepsLines table.journal (trees 23) (journal_rows_in begins (Some lines))

-- the table keeps the lines of a journal that begins and stands so
pub record KeepsTo (journal : Journal) (trees : Trees) : Type 0 where
  pub lines : List JournalLine
  pub keeps : KeepsJournalFrom journal.begins trees lines
  pub stands : journal.head ≡ head_with_all journal.begins lines

-- a journal that begins and stands so has these lines
pub record IsOfLines (journal : Journal) (lines : List JournalLine) : Type 0 where
  pub can_be : CanBeLines journal.begins lines
  pub stands : journal.head ≡ head_with_all journal.begins lines

-- the journal that is kept, if one is, has the lines that are kept
abbrev pub HasLines : Option Journal → Option (List JournalLine) → Type 0
HasLines None kept = kept ≡ None
HasLines (Some journal) kept = (lines : List JournalLine) × (kept ≡ Some lines) × IsOfLines journal lines
