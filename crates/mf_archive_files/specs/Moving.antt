-- What two files hold once lines were moved from the one to the other, and both were closed.
use Rattle.std.specs.Prelude.{◌≡◌, ℕ, Bool, true, List, [], ◌∷◌, Option, None, Some, Result, Ok, Err}
use Rattle.std.specs.Prelude.{OnOk, OnErr, IfOk, IfErr}
use Rattle.mf_base.specs.declared.fault.Fault.{Fault}
use Rattle.mf_base.specs.declared.fault.Fault.TheVariants.{F20}
use Rattle.sqlite.specs.Files.{HoldsDatabase, image_of}
use Rattle.sqlite.specs.Held.{Held}
use Rattle.sqlite.specs.Tree.{Trees}
use Rattle.sqlite_disk.specs.declared.Disk.{Ghosts}
use Rattle.sqlite_disk.specs.declared.Files.{Files}
use Rattle.sqlite_store.specs.FileStore.{recovers}
use Rattle.sqlite_store.specs.declared.store.FileStore.{FileStore}
use Rattle.sqlite_trees.specs.declared.store.Store.{Ghosts as StoreGhosts}
use Rattle.sqlite_wal.specs.Files.{outcomes}
use Rattle.sqlite_wal.specs.Recovery.{Image}
use Rattle.mf_model.specs.Institution.{Institution, JournalLine}
use Rattle.mf_journal.specs.declared.following.Head.{Head}
use Rattle.mf_store_journal.specs.Rows.{head_with_all}
use Rattle.mf_store_journal.specs.declared.journal.Journal.{Journal}
use Rattle.mf_store_noted.specs.Tabled.{HoldsOneOf}
use Rattle.mf_store_files.specs.Closed.{CloseWell, HoldsByItself}
use Rattle.mf_store_archive.specs.Archived.{archived, staying, with_lines}
use Rattle.mf_store_archive.specs.Filing.{HoldsFiled, IsFiled, archive_rows}
use Rattle.mf_archive_files.specs.Finding.{IsToMove, IsNotToMove}
use Rattle.mf_archive_files.specs.declared.finding.Unmoved.{Unmoved}
use Rattle.mf_archive_files.specs.declared.finding.Unmoved.TheVariants.{Taken, NoPlace, Begun}
use Rattle.mf_archive_files.specs.declared.moving.Moved.{Moved}

-- the database file and its log hold an archive of these lines of a journal that begins here, and nothing else
abbrev pub HoldsLines : Image → Head → List JournalLine → Type 0
HoldsLines image begins lines =
    ∥ ((trees : Trees) × HoldsDatabase image trees × HoldsFiled trees (archive_rows begins lines)) ∥₁

-- the two hold it together, and so does the database file without its log
pub record HoldsArchive (image : Image) (begins : Head) (lines : List JournalLine) : Type 0 where
  pub both : HoldsLines image begins lines
  pub alone : HoldsLines (record image { log = [] }) begins lines

module _ {D : Type 0} {g : Ghosts D} where
  -- files that were closed hold the institution, and so does whatever a stop leaves of them; of files that could not be
  -- closed it leaves one of these, whole
  abbrev pub CloseOver : Institution → List Institution → Result (Files D) (Fault × FileStore D g) → Type 0
  CloseOver i left (Ok files) = HoldsByItself (image_of g files) i
      × ((image : Image) → outcomes g files.log files.db image → HoldsByItself image i)
  CloseOver i left (Err rest) = (trees : Trees) → recovers rest.1 trees → HoldsOneOf left trees

  -- files that were closed hold an archive of these lines, and so does whatever a stop leaves of them
  abbrev pub CloseArchive : Head → List JournalLine → Result (Files D) (Fault × FileStore D g) → Type 0
  CloseArchive begins lines (Ok files) = HoldsArchive (image_of g files) begins lines
      × ((image : Image) → outcomes g files.log files.db image → HoldsArchive image begins lines)
  CloseArchive begins lines (Err rest) = Unit {0}

  -- so far the disk has returned what was written, where a file was made
  abbrev pub CloseWellIf : Option (Result (Files D) (Fault × FileStore D g)) → Type 0
  CloseWellIf None = Unit {0}
  CloseWellIf (Some closed) = CloseWell closed

  -- the archive was made, and was closed with these lines
  abbrev pub IsArchive : Head → List JournalLine → Option (Result (Files D) (Fault × FileStore D g)) → Type 0
  IsArchive begins lines None = ⊥
  IsArchive begins lines (Some closed) = CloseArchive begins lines closed

-- the heads between which the lines up to a day stand
abbrev pub moved_lines : ℕ → Head → List JournalLine → Moved
moved_lines day begins lines = record { from = begins; to = head_with_all begins (archived day lines) }

-- what is told of the lines, by the journal before and after
abbrev pub moved_of : Journal → Result Journal Fault → Result Moved Fault
moved_of journal (Ok next) = Ok (record { from = journal.begins; to = next.begins })
moved_of journal (Err fault) = Err fault

-- and what the program hears of it, once the archive was made
abbrev pub told_of : Result Moved Fault → Result Moved Unmoved
told_of (Ok moved) = Ok moved
told_of (Err fault) = Err (Begun fault)

-- which refusal comes when, where lines up to a day were to be moved on a business day
abbrev pub IsRefusal : ℕ → Bool → ℕ → List JournalLine → Unmoved → Type 0
IsRefusal day is_free today lines Taken = IsToMove day today lines
IsRefusal day is_free today lines NoPlace = IsToMove day today lines × (is_free ≡ true)
IsRefusal day is_free today lines (Begun fault) = IsToMove day today lines × (is_free ≡ true) × (fault ≡ F20)
IsRefusal day is_free today lines unmoved = IsNotToMove day today lines unmoved

-- where no line is moved the file keeps them all; once the archive was begun, a file that could not be closed may lack
-- those up to the day
abbrev pub left_unmoved : ℕ → List JournalLine → Institution → Unmoved → List Institution
left_unmoved day lines i (Begun fault) = with_lines (staying day lines) i ∷ i ∷ []
left_unmoved day lines i unmoved = i ∷ []

module _ {D A : Type 0} {f : Ghosts D} (g : StoreGhosts A) where
  -- The lines up to and with a day stand in the archive and no longer in the file, which was closed; its journal begins
  -- where they ended. Or, giving up with F20, the file keeps its lines; where it could not be closed then, it may lack
  -- them.
  pub record MovesFrom (day : ℕ) (begins : Head) (i : Institution) (lines : List JournalLine)
      (result : Result Moved Fault) (file : Result (Files D) (Fault × FileStore D f)) (archive : Held A) : Type 0 where
    pub told : IfOk result (λ moved. moved ≡ moved_lines day begins lines)
    pub stays : OnOk result (CloseOver (with_lines (staying day lines) i) (with_lines (staying day lines) i ∷ []) file)
    pub filed : OnOk result (IsFiled g (archive_rows begins (archived day lines)) archive)
    pub gives_up : IfErr result (λ fault. fault ≡ F20)
    pub kept : OnErr result (CloseOver i (with_lines (staying day lines) i ∷ i ∷ []) file)

module _ {D A : Type 0} {f : Ghosts D} {g : Ghosts A} where
  -- the same, and the archive was closed
  pub record MovesAndCloses (day : ℕ) (begins : Head) (i : Institution) (lines : List JournalLine)
      (result : Result Moved Fault) (file : Result (Files D) (Fault × FileStore D f))
      (archive : Result (Files A) (Fault × FileStore A g)) : Type 0 where
    pub told : IfOk result (λ moved. moved ≡ moved_lines day begins lines)
    pub stays : OnOk result (CloseOver (with_lines (staying day lines) i) (with_lines (staying day lines) i ∷ []) file)
    pub moved : OnOk result (CloseArchive begins (archived day lines) archive)
    pub gives_up : IfErr result (λ fault. fault ≡ F20)
    pub kept : OnErr result (CloseOver i (with_lines (staying day lines) i ∷ i ∷ []) file)

  -- lines up to a day were to be moved, of the journal of this institution, which begins here
  abbrev pub ArchivesOver : ℕ → Bool → Head → Institution → List JournalLine → Result Moved Unmoved
      → Result (Files D) (Fault × FileStore D f) → Option (Result (Files A) (Fault × FileStore A g)) → Type 0
  ArchivesOver day is_free begins i lines (Ok moved) file archive = IsToMove day i.catalogue.day lines
      × (is_free ≡ true)
      × (moved ≡ moved_lines day begins lines)
      × CloseOver (with_lines (staying day lines) i) (with_lines (staying day lines) i ∷ []) file
      × IsArchive begins (archived day lines) archive
  ArchivesOver day is_free begins i lines (Err unmoved) file archive =
      IsRefusal day is_free i.catalogue.day lines unmoved × CloseOver i (left_unmoved day lines i unmoved) file
