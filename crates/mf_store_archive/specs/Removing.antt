-- What the calls that take lines out of the journal's table come to.
use Rattle.std.specs.Prelude.{◌≡◌, ◌≢◌, ℕ, pos, ◌<ℤ◌, true, List, ◌∷◌, filter, Option, None, Some}
use Rattle.std.specs.Prelude.{IsTrue}
use Rattle.std.specs.List.{AllByRecursion}
use Rattle.sqlite.specs.Effect.{Database}
use Rattle.sqlite.specs.State.{State}
use Rattle.sqlite.specs.Table.{Table}
use Rattle.sqlite_catalog.specs.Listing.{IsSound}
use Rattle.mf_store_sql.specs.Numbered.{Filed, KeepsLines, id_of, is_above}
use Rattle.mf_store_schema.specs.Rows.{Lists}
use Rattle.mf_store_schema.specs.Tables.{journal, third_schema}
use Rattle.mf_store_schema.specs.Writes.{are_some, lists_changed}
use Rattle.mf_journal.specs.declared.following.Head.{Head}
use Rattle.mf_store_journal.specs.Adding.{KeepsJournal}
use Rattle.mf_store_journal.specs.Noting.{with_journal}
use Rattle.mf_store_journal.specs.Rows.{filed_beginning}

-- the table keeps these lines now, and the other tables what they kept
pub record KeepsInstead (lines : List Filed) (old new : Database) : Type 0 where
  pub schema_is : new.schema ≡ third_schema
  pub sound : IsSound third_schema new.trees
  pub keeps : KeepsLines journal (new.trees 23) lines
  pub others : AllByRecursion (λ (other : Table). other.tree ≢ 23 → new.trees other.tree ≡ old.trees other.tree)
      third_schema.tables

-- the rows above a number
abbrev pub rows_above : ℕ → List Filed → List Filed
rows_above number lines = filter (is_above id_of (pos number)) lines

-- the rows up to a number are gone, and the transaction goes on
pub record RemovesUpTo (number : ℕ) (old new : State) : Type 0 where
  pub mode : new.in_transaction ≡ true
  pub was_open : IsTrue old.is_open
  pub removed : (lines : List Filed) → KeepsJournal old.now lines
      → KeepsInstead (rows_above number lines) old.now new.now

-- each row is above a number
abbrev pub AreAbove : ℕ → List Filed → Type 0
AreAbove number lines = AllByRecursion (λ (line : Filed). pos number <ℤ id_of line) lines

-- the row of where a journal begins stands before the others, and the transaction goes on
pub record PutsFirst (head : Head) (old new : State) : Type 0 where
  pub mode : new.in_transaction ≡ true
  pub was_open : IsTrue old.is_open
  pub put : (lines : List Filed) → AreAbove head.number lines → KeepsJournal old.now lines
      → KeepsInstead (filed_beginning head ∷ lines) old.now new.now

-- ---- as a part of a commit

-- the rows of a journal that begins here: the beginning, and those above it
abbrev pub rows_from : Head → List Filed → List Filed
rows_from head lines = filed_beginning head ∷ rows_above head.number lines

-- the lists with a journal that begins here in place of where it began
abbrev pub begun_at : Head → Lists → Lists
begun_at head lists = with_journal (rows_from head lists.journal) lists

-- a journal is kept
abbrev pub FitsTaking : Option Lists → Type 0
FitsTaking None = ⊥
FitsTaking (Some lists) = are_some lists.journal ≡ true

-- the lists after its first lines were taken out
abbrev pub after_taking : Head → Option Lists → Option Lists
after_taking head lists = lists_changed (begun_at head) lists
