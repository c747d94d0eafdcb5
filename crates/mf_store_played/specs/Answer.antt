-- What the play of a journal says of the tables beside it.
use Rattle.std.specs.Prelude.{◌≡◌, ◌+◌, ◌++◌, ℕ, List, None, Some}
use Rattle.sqlite.specs.Files.{over_files}
use Rattle.sqlite.specs.Tree.{Trees}
use Rattle.sqlite_disk.specs.declared.Disk.{Ghosts}
use Rattle.sqlite_store.specs.declared.store.FileStore.{FileStore}
use Rattle.mf_journal.specs.declared.following.Head.{Head}
use Rattle.mf_model.specs.Institution.{Institution, JournalLine}
use Rattle.mf_model.specs.Sound.{IsSound}
use Rattle.mf_play.specs.Play.{PlaysTo, StopsAt}
use Rattle.mf_store.specs.Facts.{KnownStore}
use Rattle.mf_store.specs.Stands.{StandsFor}
use Rattle.mf_store_journal.specs.Rows.{head_with_all}
use Rattle.mf_store_journal.specs.Written.{KeepsJournalFrom}
use Rattle.mf_store_journal.specs.declared.journal.Journal.{Journal}
use Rattle.mf_store_noted.specs.Kept.{begins_of, journaled}
use Rattle.mf_store_noted.specs.Upgrading.{upgrading}
use Rattle.mf_store_schema.specs.Rows.{Lists}
use Rattle.mf_store_schema.specs.Writes.{HoldsAt}
use Rattle.mf_store_schema.specs.declared.versions.Version.TheVariants.{Third}
use Rattle.mf_store_sound.specs.Held.{HoldsSoundAt}
use Rattle.mf_store_sound.specs.Schemas.{tables_at}
use Rattle.mf_store_values.specs.Flat.{tables_of}
use Rattle.mf_store_played.specs.Played.{IsFounding, IsFirstDifference, founded}
use Rattle.mf_store_played.specs.declared.played.Difference.{Difference}
use Rattle.mf_store_played.specs.declared.played.Played.{Played}
use Rattle.mf_store_played.specs.declared.played.Played.TheVariants.{Leads, NoFounding, Stops, Differs, OtherCopy}
use Rattle.mf_store_played.specs.declared.played.Played.TheVariants.{Lacks}

-- this is the first difference of rows from those that the play gives
pub record IsDifference (d : Difference) (here played : Lists) : Type 0 where
  pub first : IsFirstDifference d.table d.row here played
  pub here_is : d.here ≡ here
  pub played_is : d.played ≡ played

-- the answer for two sides' rows after all lines were played, where the journal stands so
abbrev pub IsCompared : Head → Lists → Lists → Played → Type 0
IsCompared stands a b (Leads head) = (head ≡ stands) × (a ≡ b)
IsCompared stands a b (Differs d) = IsDifference d a b
IsCompared stands a b (NoFounding head) = ⊥
IsCompared stands a b (Stops number why) = ⊥
IsCompared stands a b (OtherCopy head) = ⊥
IsCompared stands a b (Lacks gap) = ⊥

-- The answer is right for an institution and the lines of its journal, which begins here, where they are played over
-- another one. Where they lead to another institution, it names the first table, and the first row in it, that differ.
abbrev pub IsAnswerOver : Institution → Head → List JournalLine → Institution → Played → Type 0
IsAnswerOver start begins lines i (Leads head) = PlaysTo start lines i × (head ≡ head_with_all begins lines)
IsAnswerOver start begins lines i (NoFounding head) = ⊥
IsAnswerOver start begins lines i (Stops number why) =
    (place : ℕ) × (number ≡ begins.number + place + 1) × StopsAt start lines place why
IsAnswerOver start begins lines i (Differs d) = (j : Institution) × PlaysTo start lines j
    × IsDifference d (tables_at Third i) (tables_at Third j) × ¬ PlaysTo start lines i
IsAnswerOver start begins lines i (OtherCopy head) = ⊥
IsAnswerOver start begins lines i (Lacks gap) = ⊥

-- The answer is right for an institution and the lines of its journal, which begins here. Where the lines lead to
-- another institution, it names the first table, and the first row in it, that differ.
abbrev pub IsAnswer : Head → List JournalLine → Institution → Played → Type 0
IsAnswer begins lines i (Leads head) = (day : ℕ) × IsFounding begins day × PlaysTo (founded day) lines i
    × (head ≡ head_with_all begins lines)
IsAnswer begins lines i (NoFounding head) =
    ((day : ℕ) → ¬ IsFounding begins day) × (head ≡ head_with_all begins lines)
IsAnswer begins lines i (Stops number why) = (day : ℕ) × IsFounding begins day × (place : ℕ)
    × (number ≡ place + 1) × StopsAt (founded day) lines place why
IsAnswer begins lines i (Differs d) = (day : ℕ) × IsFounding begins day × (j : Institution)
    × PlaysTo (founded day) lines j × IsDifference d (tables_at Third i) (tables_at Third j)
    × ¬ PlaysTo (founded day) lines i
IsAnswer begins lines i (OtherCopy head) = ⊥
IsAnswer begins lines i (Lacks gap) = ⊥

-- the journal was begun over the rows of this institution, which keeps none
pub record IsCopy (copied : Institution) (begins : Head) : Type 0 where
  pub none : copied.journal ≡ None
  pub is : begins ≡ upgrading copied.catalogue.day (tables_of copied)

-- the store stands for this institution with the journal that is begun over its rows, and it kept none before
pub record IsBegunOver {D : Type 0} {g : Ghosts D} (copied : Institution) (store : KnownStore (FileStore D g)) : Type 0
  where
    pub none : copied.journal ≡ None
    pub stands : StandsFor over_files store (journaled copied)
    pub begins : begins_of store.journal ≡ Some (upgrading copied.catalogue.day (tables_of copied))

-- The answer is right for an institution and the lines of its journal, which begins here, where it is to be played from
-- a copy of what stood there before it was begun.
abbrev pub IsCopyAnswer : Institution → Head → List JournalLine → Institution → Played → Type 0
IsCopyAnswer copied begins lines i (OtherCopy head) =
    (¬ IsCopy copied begins) × (head ≡ head_with_all begins lines)
IsCopyAnswer copied begins lines i played =
    IsCopy copied begins × IsAnswerOver (journaled copied) begins lines i played

-- the answer is right for the sound institution that trees hold, and the lines of its journal
pub record IsAnswerOf (trees : Trees) (played : Played) : Type 0 where
  pub right : (held : HoldsSoundAt Third trees) → (begins : Head) (lines : List JournalLine)
      → held.institution.journal ≡ Some lines → KeepsJournalFrom begins trees lines
      → IsAnswer begins lines held.institution played

-- the same where the journal is to be played from a copy of this institution
pub record IsCopyAnswerOf (copied : Institution) (trees : Trees) (played : Played) : Type 0 where
  pub right : (held : HoldsSoundAt Third trees) → (begins : Head) (lines : List JournalLine)
      → held.institution.journal ≡ Some lines → KeepsJournalFrom begins trees lines
      → IsCopyAnswer copied begins lines held.institution played

-- lines that trees keep, and the sound institution whose rows they hold, with these lines at the end of its journal
pub record HoldsPlayable (i : Institution) (before : List JournalLine) (journal : Journal) (trees : Trees)
    (lines : List JournalLine) : Type 0 where
  pub sound : IsSound i
  pub holds : HoldsAt Third trees (tables_at Third i)
  pub journal_is : i.journal ≡ Some (before ++ lines)
  pub keeps : KeepsJournalFrom journal.begins trees lines
  pub stands : journal.head ≡ head_with_all journal.begins lines
