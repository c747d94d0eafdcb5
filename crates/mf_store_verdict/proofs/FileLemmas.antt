-- What is said of a connection that shows a file is said of the database that the file held.
use Rattle.std.proofs.Common.{◌≡◌, List, [], ◌∷◌, ◌++◌, Option, None, Some, refl, sym, ap, ◌∙◌, subst}
use Rattle.sqlite.specs.Effect.{Database}
use Rattle.sqlite.specs.Files.{HoldsDatabase}
use Rattle.sqlite.specs.Schema.{Schema}
use Rattle.sqlite.specs.State.{State}
use Rattle.sqlite.specs.Tree.{Trees}
use Rattle.sqlite_catalog.specs.Listing.{IsSound}
use Rattle.sqlite_wal.specs.Recovery.{Image}
use Rattle.mf_store_sql.specs.Tables.{no_schema}
use Rattle.mf_store_schema.specs.Schemas.{IsKnown}
use Rattle.mf_store_schema.specs.Versions.{IsOfVersion, schema_at}
use Rattle.mf_store_schema.specs.declared.versions.Version.{Version}
use Rattle.mf_store_schema.specs.declared.versions.Version.TheVariants.{Third}
use Rattle.mf_journal.specs.declared.following.Head.{Head}
use Rattle.mf_model.specs.Institution.{JournalLine}
use Rattle.mf_store_journal.specs.Reading.{IsThird}
use Rattle.mf_store_journal.specs.Written.{KeepsJournalFrom}
use Rattle.mf_store_sound.specs.Files.{ShowsFile}
use Rattle.mf_store_sound.proofs.FileLemmas.{under, seen}
use Rattle.mf_store_sound.proofs.SchemaLemmas.{no_views}
use Rattle.mf_store_audit.specs.Audits.{IsAuditOf, TellsAll}
use Rattle.mf_store_audit.specs.declared.audits.Audit.{Audit}
use Rattle.mf_store_audit.specs.declared.audits.Audit.TheVariants.{NoTables, OtherTables, Sound, Unsound, Unreadable}
use Rattle.mf_store_audit.specs.declared.audits.Audit.TheVariants as audit
use Rattle.mf_store_played.specs.declared.played.Played.{Played}
use Rattle.mf_store_archive.specs.Appending.{KeepsArchive}
use Rattle.mf_store_archive.specs.Texts.{archive_schema}
use Rattle.mf_store_archived.specs.Joining.{AreArchives, IsArchive}
use Rattle.mf_store_archived.specs.Reading.{KeepsPart}
use Rattle.mf_store_archived.specs.declared.archive.Archive.{Archive}
use Rattle.mf_store_journal.specs.Rows.{journal_rows_in}
use Rattle.mf_store_verdict.specs.Archives.{HoldsPart}
use Rattle.mf_store_verdict.specs.Heads.{StandsSo, IsHeadOf, IsHeadOfFile}
use Rattle.mf_store_verdict.specs.Verdict.{IsPlayOf, IsVerdictBy, IsFileVerdictBy, TellsAllOfFile}
use Rattle.mf_store_verdict.specs.declared.verdict.Verdict.{Verdict}
use Rattle.mf_store_verdict.proofs.PlayLemmas.{third_there}

module _ (image : Image) (s : State) (shows : ShowsFile image s) (trees : Trees) (k : Schema)
    (holds : HoldsDatabase image trees) (sound : IsSound k trees) where
  abbrev held : Database
  held = record { schema = k; trees = trees }

  -- a connection with the program's tables, or with none, shows just the database that was held
  is_held : (own : Schema) → own.views ≡ [] → s.now.schema ≡ own → s.now ≡ held
  is_held own bare is =
      let same = seen image s shows trees k holds sound (ap (λ (x : Schema). x.views) is ∙ bare) in
      λ t. record { schema = sym same t; trees = shows.holds trees holds t }

  was_seen : (own : Schema) → own.views ≡ [] → k ≡ own → s.now.schema ≡ own
  was_seen own bare is = ap (λ (db : Database). db.schema) (under image s shows k (ap (λ (x : Schema). x.views) is
      ∙ bare) trees holds sound) ∙ is

  as_known : IsKnown k → IsKnown s.now.schema
  as_known known = (known.0, was_seen (schema_at known.0) (no_views known.0) known.1)

  known_is_held : (v : Version) → IsOfVersion v s.now.schema → s.now ≡ held
  known_is_held v is = is_held (schema_at v) (no_views v) is

  told_of : (audit : Audit) → IsAuditOf s.now audit → IsAuditOf held audit
  told_of NoTables told = subst (λ db. IsAuditOf db NoTables) (is_held no_schema refl told) told
  told_of OtherTables told = (λ none. told.0 (was_seen no_schema refl none), λ known. told.1 (as_known known))
  told_of (Sound v rows sums suspects) told = subst (λ db. IsAuditOf db (Sound v rows sums suspects))
      (known_is_held v told.0.has.0) told
  told_of (Unsound v rows findings) told = subst (λ db. IsAuditOf db (Unsound v rows findings))
      (known_is_held v told.1.0) told
  told_of (audit.BrokenJournal broken) told = subst (λ db. IsAuditOf db (audit.BrokenJournal broken))
      (known_is_held Third told.0) told
  told_of (Unreadable v unread) told = subst (λ db. IsAuditOf db (Unreadable v unread)) (known_is_held v told.0) told

  -- all that is found of the tables is found of those that the file held
  all_told_of : (audit : Audit) → IsAuditOf s.now audit → TellsAll s.now audit → TellsAll held audit
  all_told_of NoTables is told = told
  all_told_of OtherTables is told = told
  all_told_of (Sound v rows sums suspects) is told = told
  all_told_of (Unsound v rows findings) is told = told
  all_told_of (audit.BrokenJournal broken) is told = told
  all_told_of (Unreadable v unread) is told = subst (λ db. TellsAll db (Unreadable v unread)) (known_is_held v is.0)
      told

  -- the play is of the tables that the file held
  play_of : (IsRight : Trees → Played → Type 0) (found : Audit) (played : Option Played) → IsAuditOf s.now found
      → IsPlayOf IsRight s.now found played → IsPlayOf IsRight held found played
  play_of IsRight found None told none = none
  play_of IsRight found (Some played) told (finds, answer) = (
    finds,
    subst (λ (db : Database). IsRight db.trees played) (known_is_held Third (third_there s.now found finds told))
        answer,
  )

  third_seen : IsThird k → IsThird s.now.schema
  third_seen third = was_seen (schema_at Third) (no_views Third) third

  -- where the journal stands is told of the tables that the file held
  head_of : (told : Option Head) → IsHeadOf s.now told → IsHeadOf held told
  head_of told is = record {
    kept = λ third. subst (λ (db : Database). (begins : Head) (lines : List JournalLine)
        → KeepsJournalFrom begins db.trees lines → StandsSo told begins lines)
        (known_is_held Third (third_seen third)) (is.kept (third_seen third));
    third = λ none. is.third
        (λ here. none (subst (λ (db : Database). IsThird db.schema) (known_is_held Third here) here));
  }

module _ (image : Image) (s : State) (shows : ShowsFile image s) where
  pub head_of_file : (told : Option Head) → IsHeadOf s.now told → IsHeadOfFile image told
  head_of_file told is = record {
    tables = λ trees k holds sound. head_of image s shows trees k holds sound told is;
  }

  pub verdict_of_file : (IsRight : Trees → Played → Type 0) (v : Verdict) → IsVerdictBy IsRight s.now v
      → IsFileVerdictBy IsRight image v
  verdict_of_file IsRight v is = record {
    tables = λ trees k holds sound. record {
      audited = told_of image s shows trees k holds sound v.audit is.audited;
      played = play_of image s shows trees k holds sound IsRight v.audit v.played is.audited is.played;
    };
  }

module _ (image : Image) (s : State) (shows : ShowsFile image s) where
  pub all_of_file : (v : Verdict) → IsAuditOf s.now v.audit → TellsAll s.now v.audit → TellsAllOfFile image v
  all_of_file v is told = record {
    tables = λ trees k holds sound. all_told_of image s shows trees k holds sound v.audit is told;
  }

-- an archive that bytes hold is one that their connection shows
pub part_kept : (image : Image) (s : State) → ShowsFile image s → (begins : Head) (lines : List JournalLine)
    → HoldsPart image begins lines → KeepsPart begins lines s.now
part_kept image s shows begins lines part =
    let now = under image s shows archive_schema refl part.trees part.holds part.rows.sound in record {
      can_be = part.can_be;
      keeps = subst (λ (db : Database). KeepsArchive db (journal_rows_in begins (Some lines))) (sym now)
          (record { schema_is = refl; keeps = part.rows.keeps });
    }

-- one more archive
pub archives_more : (archives next : List Archive) (a : Archive) → AreArchives archives → IsArchive a
    → next ≡ archives ++ a ∷ [] → AreArchives next
archives_more archives next a all one are = subst AreArchives (sym are) (more archives all)
  where
    more : (ones : List Archive) → AreArchives ones → AreArchives (ones ++ a ∷ [])
    more [] all = (one, tt)
    more (b ∷ bs) all = (all.0, more bs all.1)
