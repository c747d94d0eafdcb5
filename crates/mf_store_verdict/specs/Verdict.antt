-- What a verdict says of a database: its audit, and what the play of its journal says of the tables.
use Rattle.std.specs.Prelude.{◌≡◌, IsTrue, List, Option, Some, None}
use Rattle.sqlite.specs.Effect.{Database}
use Rattle.sqlite.specs.Files.{over_files, HoldsDatabase}
use Rattle.sqlite.specs.Schema.{Schema}
use Rattle.sqlite.specs.State.{State}
use Rattle.sqlite.specs.Tree.{Trees}
use Rattle.sqlite_catalog.specs.Listing.{IsSound}
use Rattle.sqlite_wal.specs.Recovery.{Image}
use Rattle.mf_model.specs.Institution.{Institution}
use Rattle.mf_store.specs.Stands.{StandsFor}
use Rattle.mf_store_schema.specs.declared.versions.Version.TheVariants.{Third}
use Rattle.mf_store_audit.specs.Audits.{FindsNoSuspect, FindsSound, IsAuditOf, TellsAll}
use Rattle.mf_store_audit.specs.declared.audits.Audit.{Audit}
use Rattle.mf_store_audit.specs.declared.audits.Audit.TheVariants.{NoTables, OtherTables, Sound, Unsound, Unreadable}
use Rattle.mf_store_audit.specs.declared.audits.Audit.TheVariants as audit
use Rattle.mf_store_archived.specs.Joining.{AreArchives}
use Rattle.mf_store_archived.specs.declared.archive.Archive.{Archive}
use Rattle.mf_store_played.specs.Answer.{IsAnswerOf, IsCopyAnswerOf}
use Rattle.mf_store_played.specs.Archived.{IsArchivedAnswerOf}
use Rattle.mf_store_played.specs.declared.played.Played.{Played}
use Rattle.mf_store_played.specs.declared.played.Played.TheVariants.{Leads, NoFounding, Stops, Differs, OtherCopy}
use Rattle.mf_store_played.specs.declared.played.Played.TheVariants.{Lacks}
use Rattle.mf_store_verdict.specs.declared.playing.Beginning.{Beginning}
use Rattle.mf_store_verdict.specs.declared.playing.Beginning.TheVariants.{Founding, Copy, Archives}
use Rattle.mf_store_verdict.specs.declared.verdict.Verdict.{Verdict}

-- an audit says that it found a sound institution with a journal
abbrev pub FindsJournal : Audit → Type 0
FindsJournal NoTables = ⊥
FindsJournal OtherTables = ⊥
FindsJournal (Sound version tables sums suspects) = version ≡ Third
FindsJournal (Unsound version tables findings) = ⊥
FindsJournal (Unreadable version unread) = ⊥
FindsJournal (audit.BrokenJournal broken) = ⊥

-- the journal is played just where the audit finds one, and what is told of the play is right of the tables
abbrev pub IsPlayOf : (Trees → Played → Type 0) → Database → Audit → Option Played → Type 0
IsPlayOf IsRight db found None = ¬ FindsJournal found
IsPlayOf IsRight db found (Some played) = FindsJournal found × IsRight db.trees played

-- the audit is right, and so is what is told of the play of the journal
pub record IsVerdictBy (IsRight : Trees → Played → Type 0) (db : Database) (v : Verdict) : Type 0 where
  pub audited : IsAuditOf db v.audit
  pub played : IsPlayOf IsRight db v.audit v.played

-- the same where the journal is played from its founding
abbrev pub IsVerdictOf : Database → Verdict → Type 0
IsVerdictOf = IsVerdictBy IsAnswerOf

-- and where it is played from a copy of this institution
abbrev pub IsVerdictFrom : Institution → Database → Verdict → Type 0
IsVerdictFrom copied = IsVerdictBy (IsCopyAnswerOf copied)

-- what is told of the play is right, from such a beginning
abbrev pub IsRightBy : Beginning → Trees → Played → Type 0
IsRightBy Founding trees played = IsAnswerOf trees played
IsRightBy (Copy copy) trees played =
    (copied : Institution) → StandsFor over_files copy copied → IsCopyAnswerOf copied trees played
IsRightBy (Archives archives) trees played =
    AreArchives archives.now → IsArchivedAnswerOf archives.now trees played

-- and where the lines of archives are played before its own
abbrev pub IsVerdictOver : List Archive → Database → Verdict → Type 0
IsVerdictOver archives = IsVerdictBy (IsArchivedAnswerOf archives)

-- while the connection is open, it shows this database
pub record Shows (s : State) (db : Database) : Type 0 where
  pub is : IsTrue s.is_open → s.now ≡ db

-- a play leads to the tables, as far as there was one
abbrev pub IsPassed : Option Played → Type 0
IsPassed None = Unit {0}
IsPassed (Some (Leads head)) = Unit {0}
IsPassed (Some (NoFounding head)) = Unit {0}
IsPassed (Some (Stops number why)) = ⊥
IsPassed (Some (Differs difference)) = ⊥
IsPassed (Some (OtherCopy head)) = ⊥
IsPassed (Some (Lacks gap)) = ⊥

-- the tables hold a sound institution, and its journal leads there, where it is played
abbrev pub HoldsUp : Verdict → Type 0
HoldsUp v = FindsSound v.audit × IsPassed v.played

-- the same, and no entry is suspect
abbrev pub Passes : Verdict → Type 0
Passes v = HoldsUp v × FindsNoSuspect v.audit

-- the verdict is that of the database that a file held
pub record IsFileVerdictBy (IsRight : Trees → Played → Type 0) (image : Image) (v : Verdict) : Type 0 where
  pub tables : (trees : Trees) (k : Schema) → HoldsDatabase image trees → IsSound k trees
      → IsVerdictBy IsRight (record { schema = k; trees = trees }) v

-- the same where the journal is played from its founding
abbrev pub IsVerdictOfFile : Image → Verdict → Type 0
IsVerdictOfFile = IsFileVerdictBy IsAnswerOf

-- and where it is played from a copy of this institution
abbrev pub IsFileVerdictFrom : Institution → Image → Verdict → Type 0
IsFileVerdictFrom copied = IsFileVerdictBy (IsCopyAnswerOf copied)

-- and where the lines of archives are played before its own
abbrev pub IsFileVerdictOver : List Archive → Image → Verdict → Type 0
IsFileVerdictOver archives = IsFileVerdictBy (IsArchivedAnswerOf archives)

-- the verdict tells all that is found in the database that a file held
pub record TellsAllOfFile (image : Image) (v : Verdict) : Type 0 where
  pub tables : (trees : Trees) (k : Schema) → HoldsDatabase image trees → IsSound k trees
      → TellsAll (record { schema = k; trees = trees }) v.audit
