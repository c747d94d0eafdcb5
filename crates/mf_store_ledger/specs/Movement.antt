-- What the lines of a journal's table lead to before a business day, and the movement of a span of them.
use Rattle.std.specs.Prelude.{◌≡◌, ◌+◌, max, ℕ, List, Result, Ok, Err, IfOk, Vec}
use Rattle.std.specs.declared.alloc.Global.{Global}
use Rattle.mf_base.specs.declared.fault.Fault.{Fault}
use Rattle.sqlite.specs.State.{State, HasCleanDisk}
use Rattle.sqlite.specs.Tree.{Trees}
use Rattle.mf_journal.specs.declared.following.Head.{Head}
use Rattle.mf_model.specs.Institution.{Institution, JournalLine}
use Rattle.mf_model.specs.declared.store.InstitutionStore.{Ghosts}
use Rattle.mf_play.specs.declared.stop.Stop.{Stop}
use Rattle.mf_portions.specs.Portions.{portion_lines}
use Rattle.mf_portions.specs.Table.{table_text}
use Rattle.mf_portions.specs.declared.lines.PortionLine.{PortionLine}
use Rattle.mf_portions_play.specs.Ends.{told_before, PlayBefore, StopsBefore}
use Rattle.mf_store_journal.specs.Reading.{IsThird}
use Rattle.mf_store_journal.specs.Written.{KeepsJournalFrom}
use Rattle.mf_store_ledger.specs.declared.answer.Books.{Books}
use Rattle.mf_store_ledger.specs.declared.answer.Books.TheVariants.{Written, NoFounding, OtherCopy, Stops}
use Rattle.mf_store_played.specs.Played.{IsFounding, founded}

-- the lines by portion before a business day, of an institution that is founded on a day
abbrev pub lines_before : ℕ → ℕ → List JournalLine → List PortionLine
lines_before until day lines = portion_lines (told_before until lines (founded day))

-- the movement of the business days from a first to a last one: what stands there after the last, less what stands
-- there before the first
abbrev pub movement_text : ℕ → ℕ → ℕ → List JournalLine → List ℕ
movement_text first last day lines =
    table_text (lines_before first day lines) (lines_before (last + 1) day lines)

-- the lines before that day play, and these are those lines; or the line of this number comes before it and doesn't
-- play, for this
abbrev pub AreLinesBefore : ℕ → ℕ → List JournalLine → Result (Vec PortionLine Global) (ℕ × Stop) → Type 0
AreLinesBefore until day lines (Ok found) =
    (found.items ≡ lines_before until day lines) × PlayBefore until (founded day) lines
AreLinesBefore until day lines (Err stop) =
    (place : ℕ) × (stop.0 ≡ place + 1) × StopsBefore until (founded day) lines place stop.1

-- the lines before a business day play, and this is the text of what they lead to, less these lines; or one of them
-- doesn't play
abbrev pub IsMovedFrom : List PortionLine → ℕ → ℕ → List JournalLine → Books → Type 0
IsMovedFrom before until day lines (Written text) =
    (text.items ≡ table_text before (lines_before until day lines)) × PlayBefore until (founded day) lines
IsMovedFrom before until day lines NoFounding = ⊥
IsMovedFrom before until day lines OtherCopy = ⊥
IsMovedFrom before until day lines (Stops number why) =
    (place : ℕ) × (number ≡ place + 1) × StopsBefore until (founded day) lines place why

-- the business day before which lines are played: the one after the last, or the first where that is later
abbrev pub played_until : ℕ → ℕ → ℕ
played_until first last = max first (last + 1)

-- The answer is right for the lines of a journal that begins here: where its lines play up to the end of the last day,
-- the text of the movement. Or one of them doesn't play, the first that doesn't.
abbrev pub IsMovement : ℕ → ℕ → Head → List JournalLine → Books → Type 0
IsMovement first last begins lines (Written text) = (day : ℕ) × IsFounding begins day
    × PlayBefore (played_until first last) (founded day) lines × (text.items ≡ movement_text first last day lines)
IsMovement first last begins lines NoFounding = (day : ℕ) → ¬ IsFounding begins day
IsMovement first last begins lines OtherCopy = ⊥
IsMovement first last begins lines (Stops number why) = (day : ℕ) × IsFounding begins day × (place : ℕ)
    × (number ≡ place + 1) × StopsBefore (played_until first last) (founded day) lines place why

-- the answer is right for the journal that trees keep
pub record IsMovementOf (first last : ℕ) (trees : Trees) (books : Books) : Type 0 where
  pub right : (begins : Head) (lines : List JournalLine) → KeepsJournalFrom begins trees lines
      → IsMovement first last begins lines books

module _ {S : Type 0} (store : Ghosts S) (until : ℕ) where
  -- the lines before the day played, and the store stands for what they lead to; or the line of this number comes
  -- before it and doesn't play, for this
  abbrev pub CameToDay : Institution → List JournalLine → S → Result (Unit {0}) (ℕ × Stop) → Type 0
  CameToDay i lines new (Ok done) = store.stands new (told_before until lines i) × PlayBefore until i lines
  CameToDay i lines new (Err found) = (place : ℕ) × (found.0 ≡ place + 1) × StopsBefore until i lines place found.1

  -- the same of the lines that a table keeps of a journal that begins with its first, and of each institution that the
  -- store stood for, as long as the disks return what was written
  abbrev pub EndsTable : State → State → S → S → Result (Result (Unit {0}) (ℕ × Stop)) Fault → Type 0
  EndsTable old new before after result = HasCleanDisk new → IsThird old.now.schema → store.clean after
      → (begins : Head) (lines : List JournalLine) → begins.number ≡ 0 → KeepsJournalFrom begins old.now.trees lines
      → (i : Institution) → store.stands before i → IfOk result (CameToDay i lines after)
