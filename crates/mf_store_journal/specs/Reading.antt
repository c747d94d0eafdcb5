-- What the calls that read the table show.
use Rattle.std.specs.Prelude.{◌≡◌, ℕ, pos, List, [], ◌∷◌, ◌++◌, map, take, filter, IsTrue}
use Rattle.sqlite.specs.Order.{Row}
use Rattle.sqlite.specs.Schema.{Schema}
use Rattle.sqlite.specs.State.{State}
use Rattle.mf_store_sql.specs.Numbered.{Filed, id_of, is_above, shown_filed}
use Rattle.mf_model.specs.Institution.{JournalLine}
use Rattle.mf_store_schema.specs.Tables.{third_schema}
use Rattle.mf_store_journal.specs.Rows.{filed_at, IsLineRow}
use Rattle.mf_store_journal.specs.Adding.{KeepsJournal}
use Rattle.mf_store_journal.specs.declared.reading.Standing.{Standing}
use Rattle.mf_store_journal.specs.declared.reading.Standing.TheVariants.{Nowhere, At, Unreadable}

-- a schema is the one with the journal
abbrev pub IsThird : Schema → Type 0
IsThird k = k ≡ third_schema

-- while the connection is open, the table keeps these lines
abbrev pub IsKeeping : State → List Filed → Type 0
IsKeeping s lines = IsTrue s.is_open → KeepsJournal s.now lines

-- how many rows are read at a time
abbrev pub page_size : ℕ
page_size = 1000

-- the first so many rows above a number
abbrev pub first_above : ℕ → ℕ → List Filed → List Row
first_above most number lines = map shown_filed (take most (filter (is_above id_of (pos number)) lines))

-- the rows that a page shows: the first above a number
abbrev pub page_above : ℕ → List Filed → List Row
page_above number lines = first_above page_size number lines

-- where a journal stands by the last row of these
abbrev pub IsStanding : List Filed → Standing → Type 0
IsStanding lines Nowhere = lines ≡ []
IsStanding lines (At head) = (before : List Filed) × (l : JournalLine) × (lines ≡ before ++ filed_at head l ∷ [])
    × (head.day ≡ l.day)
IsStanding lines Unreadable = (before : List Filed) × (line : Filed) × (lines ≡ before ++ line ∷ [])
    × ¬ IsLineRow (shown_filed line)
