-- What the play of archives' lines and then a journal's own says of the tables beside it.
use Rattle.std.specs.Prelude.{◌≡◌, ◌<◌, ◌++◌, ℕ, List, Some, Result, IfOk}
use Rattle.sqlite.specs.Tree.{Trees}
use Rattle.mf_base.specs.declared.fault.Fault.{Fault}
use Rattle.mf_journal.specs.declared.following.Head.{Head}
use Rattle.mf_model.specs.Institution.{Institution, JournalLine}
use Rattle.mf_model.specs.declared.store.InstitutionStore.{Ghosts}
use Rattle.mf_play.specs.declared.stop.Stop.{Stop}
use Rattle.mf_store_archive.specs.Archived.{with_lines}
use Rattle.mf_store_archived.specs.Archives.{IsPart}
use Rattle.mf_store_archived.specs.Joining.{IsGap, LeadsOn, Reaches}
use Rattle.mf_store_archived.specs.declared.archive.Archive.{Archive}
use Rattle.mf_store_journal.specs.Written.{KeepsJournalFrom}
use Rattle.mf_store_schema.specs.declared.versions.Version.TheVariants.{Third}
use Rattle.mf_store_sound.specs.Held.{HoldsSoundAt}
use Rattle.mf_store_played.specs.Answer.{IsAnswer}
use Rattle.mf_store_played.specs.Played.{CameToByNumber}
use Rattle.mf_store_played.specs.declared.played.Played.{Played}
use Rattle.mf_store_played.specs.declared.played.Played.TheVariants.{Lacks}

-- The answer is right for an institution and for all lines from a head on, as far back as archives lead. Where that is
-- before the first line of all, it is the answer for the journal that begins there; else it says what is missing.
abbrev pub IsAnswerFrom : List Archive → Head → List JournalLine → Institution → Played → Type 0
IsAnswerFrom archives start lines i (Lacks gap) = (0 < start.number) × IsGap archives start gap
IsAnswerFrom archives start lines i played =
    (start.number ≡ 0) × IsAnswer start lines (with_lines lines i) played

-- the answer is right for an institution, the lines of its journal, which begins here, and these archives
pub record IsArchivedAnswer (archives : List Archive) (begins : Head) (lines : List JournalLine) (i : Institution)
    (played : Played) : Type 0 where
  pub start : Head
  pub before : List JournalLine
  pub reaches : Reaches archives begins start before
  pub right : IsAnswerFrom archives start (before ++ lines) i played

-- the answer is right for the sound institution that trees hold, the lines of its journal, and these archives
pub record IsArchivedAnswerOf (archives : List Archive) (trees : Trees) (played : Played) : Type 0 where
  pub right : (held : HoldsSoundAt Third trees) → (begins : Head) (lines : List JournalLine)
      → held.institution.journal ≡ Some lines → KeepsJournalFrom begins trees lines
      → IsArchivedAnswer archives begins lines held.institution played

-- ---- lines of archives, played over a store

module _ {S : Type 0} (store : Ghosts S) where
  -- the lines of an archive played, and the store stands for what follows; or the line of this number is the first that
  -- doesn't play, for this
  abbrev pub PlaysArchive : Archive → S → S → Result (Result (Unit {0}) (ℕ × Stop)) Fault → Type 0
  PlaysArchive a was now result = store.clean now → (lines : List JournalLine) → IsPart a lines
      → (i : Institution) → store.stands was i → IfOk result (CameToByNumber store a.begins.number i lines now)

  -- the same of the lines of archives at these places, which lead on from one head to another
  abbrev pub PlaysArchives : List Archive → List ℕ → S → S → Result (Result (Unit {0}) (ℕ × Stop)) Fault → Type 0
  PlaysArchives archives places was now result = store.clean now → (from to : Head) (lines : List JournalLine)
      → LeadsOn archives from places to lines → (i : Institution) → store.stands was i
      → IfOk result (CameToByNumber store from.number i lines now)
