-- What comes of playing the lines that a table keeps, and writing their transactions behind a text.
use Rattle.std.specs.Prelude.{◌≡◌, ◌+◌, ℕ, List, Result, Ok, Err, IfOk}
use Rattle.mf_base.specs.declared.fault.Fault.{Fault}
use Rattle.sqlite.specs.State.{State, HasCleanDisk}
use Rattle.mf_journal.specs.declared.following.Head.{Head}
use Rattle.mf_ledger_play.specs.Playing.{IsBooked}
use Rattle.mf_ledger_play.specs.declared.form.BooksAsked.{BooksAsked}
use Rattle.mf_model.specs.Institution.{Institution, JournalLine}
use Rattle.mf_model.specs.declared.store.InstitutionStore.{Ghosts}
use Rattle.mf_play.specs.Play.{PlaysTo, StopsAt}
use Rattle.mf_play.specs.declared.stop.Stop.{Stop}
use Rattle.mf_store_journal.specs.Reading.{IsThird}
use Rattle.mf_store_journal.specs.Written.{KeepsJournalFrom}

module _ {S : Type 0} (store : Ghosts S) (asked : BooksAsked) where
  -- the lines played, and their transactions are written; or the line of this number is the first that doesn't play,
  -- for this
  abbrev pub CameToByNumber : Institution → List JournalLine → List ℕ → List ℕ → Result (Unit {0}) (ℕ × Stop) → Type 0
  CameToByNumber i lines was now (Ok done) =
      (j : Institution) × PlaysTo i lines j × IsBooked asked 0 lines i was now
  CameToByNumber i lines was now (Err found) =
      (place : ℕ) × (found.0 ≡ place + 1) × StopsAt i lines place found.1

  -- the same of the lines that a table keeps of a journal that begins with its first, and of each institution that the
  -- store stood for, as long as the disks return what was written
  abbrev pub BooksTable : State → State → S → S → List ℕ → List ℕ → Result (Result (Unit {0}) (ℕ × Stop)) Fault
      → Type 0
  BooksTable old new before after was now result = HasCleanDisk new → IsThird old.now.schema → store.clean after
      → (begins : Head) (lines : List JournalLine) → begins.number ≡ 0 → KeepsJournalFrom begins old.now.trees lines
      → (i : Institution) → store.stands before i → IfOk result (CameToByNumber i lines was now)
