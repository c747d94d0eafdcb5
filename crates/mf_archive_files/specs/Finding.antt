-- What is found of the lines that are to be moved.
use Rattle.std.specs.Prelude.{◌≡◌, ◌≤◌, ◌<◌, ℕ, Bool, true, false, List, [], ◌∷◌, Option, None, Some, Result, Ok, Err}
use Rattle.std.specs.Prelude.{nat_le, slice_get}
use Rattle.sqlite.specs.Order.{Row}
use Rattle.mf_base.specs.declared.fault.Fault.TheVariants.{F20}
use Rattle.mf_model.specs.Institution.{JournalLine}
use Rattle.mf_journal.specs.declared.following.KeptRow.{KeptRow}
use Rattle.mf_store_sql.specs.Numbered.{shown_filed}
use Rattle.mf_store_journal.specs.Rows.{filed_kept}
use Rattle.mf_store_journal.specs.declared.journal.Journal.{Journal}
use Rattle.mf_store_archive.specs.Archived.{archived}
use Rattle.mf_archive_files.specs.declared.finding.Unmoved.{Unmoved}
use Rattle.mf_archive_files.specs.declared.finding.Unmoved.TheVariants.{NoJournal, NoLines, NotClosed, Taken, NoPlace}
use Rattle.mf_archive_files.specs.declared.finding.Unmoved.TheVariants.{Failed, Begun}

-- there are some
abbrev pub are_lines : List JournalLine → Bool
are_lines [] = false
are_lines (line ∷ lines) = true

-- the first of the rows is that of a line of this business day; or there is none
abbrev pub IsFirstDay : List Row → Option ℕ → Type 0
IsFirstDay rows None = slice_get rows 0 ≡ None
IsFirstDay rows (Some day) = (k : KeptRow) × (slice_get rows 0 ≡ Some (shown_filed (filed_kept k)))
    × (day ≡ k.row.day)

-- the first business day, if there is one, is this day or an earlier one
abbrev pub is_day_up_to : ℕ → Option ℕ → Bool
is_day_up_to day None = false
is_day_up_to day (Some first) = nat_le first day

-- there are lines up to the day, and that day is before the business day
pub record IsToMove (day today : ℕ) (lines : List JournalLine) : Type 0 where
  pub some : are_lines (archived day lines) ≡ true
  pub closed : day < today

-- why none of these lines is to be moved, where nothing was made yet
abbrev pub IsNotToMove : ℕ → ℕ → List JournalLine → Unmoved → Type 0
IsNotToMove day today lines NoJournal = ⊥
IsNotToMove day today lines NoLines = archived day lines ≡ []
IsNotToMove day today lines NotClosed = (are_lines (archived day lines) ≡ true) × (today ≤ day)
IsNotToMove day today lines Taken = ⊥
IsNotToMove day today lines NoPlace = ⊥
IsNotToMove day today lines (Failed fault) = fault ≡ F20
IsNotToMove day today lines (Begun fault) = ⊥

-- what is found, on a business day, of a journal of these lines
abbrev pub IsFoundFor : ℕ → ℕ → Journal → List JournalLine → Result Journal Unmoved → Type 0
IsFoundFor day today journal lines (Ok found) = (found ≡ journal) × IsToMove day today lines
IsFoundFor day today journal lines (Err unmoved) = IsNotToMove day today lines unmoved
