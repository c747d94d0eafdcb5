-- What an audit says of rows, and of a database.
use Rattle.std.specs.Prelude.{◌≡◌, ◌≢◌, ◌⊎◌, Bool, List, [], map, Option}
use Rattle.sqlite.specs.Effect.{Database}
use Rattle.sqlite.specs.Tree.{Trees}
use Rattle.mf_model.specs.Institution.{Institution, JournalLine}
use Rattle.mf_model.specs.Sound.{IsSound}
use Rattle.mf_store_sql.specs.Tables.{no_schema}
use Rattle.mf_store_schema.specs.Rows.{Lists}
use Rattle.mf_store_schema.specs.Schemas.{IsKnown}
use Rattle.mf_store_schema.specs.Versions.{IsOfVersion}
use Rattle.mf_store_schema.specs.Writes.{HoldsAt}
use Rattle.mf_store_schema.specs.declared.versions.Version.{Version}
use Rattle.mf_store_sql.specs.Numbered.{Filed, KeepsLines}
use Rattle.mf_store_schema.specs.Tables.{journal}
use Rattle.mf_store_schema.specs.declared.versions.Version.TheVariants.{Third}
use Rattle.mf_store_journal.specs.Checking.{IsFound}
use Rattle.mf_store_journal.specs.declared.checking.Found.TheVariants.{Nothing, Flawed, NoBeginning as NoFirst}
use Rattle.mf_store_journal.specs.Written.{KeepsJournalFrom, KeepsTo}
use Rattle.mf_store_journal.specs.declared.journal.Journal.{Journal}
use Rattle.mf_journal.specs.declared.following.Head.{Head}
use Rattle.mf_store_told.specs.Told.{IsUntoldAt, TellsRequests}
use Rattle.mf_store_sound.specs.Held.{KeepsJournalAt}
use Rattle.mf_store_sound.specs.Schemas.{lists_at, tables_at}
use Rattle.mf_store_audit.specs.Findings.{AllBreak, AreFindings, AreOfNone}
use Rattle.mf_store_audit.specs.Sums.{sums_of_office}
use Rattle.mf_store_audit.specs.Suspects.{AreSuspects, wanted_of}
use Rattle.mf_store_audit.specs.declared.totals.OfficeSums.{OfficeSums}
use Rattle.mf_store_audit.specs.Unread.{AreToldOfAll, AreUnread, tables_searched}
use Rattle.mf_store_audit.specs.declared.finding.Finding.{Finding}
use Rattle.mf_store_audit.specs.declared.audits.Audit.{Audit}
use Rattle.mf_store_audit.specs.declared.audits.Audit.TheVariants.{NoTables, OtherTables, Sound, Unsound, Unreadable}
use Rattle.mf_store_audit.specs.declared.audits.Audit.TheVariants as audit
use Rattle.mf_store_audit.specs.declared.journal.BrokenJournal.{BrokenJournal}
use Rattle.mf_store_audit.specs.declared.journal.BrokenJournal.TheVariants.{NoRows, NoBeginning, Row, NoRequest}

-- a sound institution of which this holds has these sums, office by office
pub record AreSumsOf (Has : Institution → Type 0) (sums : List OfficeSums) : Type 0 where
  pub institution : Institution
  pub sound : IsSound institution
  pub has : Has institution
  pub sums_are : map (sums_of_office institution.catalogue) institution.offices ≡ sums

-- these are all suspect entries of the rows, or the first alone
abbrev pub AreSuspectsOf : Lists → List Finding → Type 0
AreSuspectsOf lists suspects =
    (all : Bool) × (found : List Finding) × AreSuspects lists found × (suspects ≡ wanted_of all found)

-- what is said of rows by the tables of a version
abbrev pub IsAuditOfRows : Version → Lists → Audit → Type 0
IsAuditOfRows v lists NoTables = ⊥
IsAuditOfRows v lists OtherTables = ⊥
IsAuditOfRows v lists (Sound version tables sums suspects) =
    (version ≡ v) × AreSumsOf (λ i. tables_at v i ≡ lists) sums.items × (tables ≡ lists)
    × AreSuspectsOf lists suspects.items
IsAuditOfRows v lists (Unsound version tables findings) =
    (version ≡ v) × (tables ≡ lists) × AreOfNone v lists × AllBreak v lists findings.items
IsAuditOfRows v lists (Unreadable version unread) = ⊥
IsAuditOfRows v lists (audit.BrokenJournal broken) = ⊥

-- a database has the tables of a version, with the rows of an institution, and its journal's, each line of which tells
-- a request, and nothing else
abbrev pub HoldsInAt : Version → Database → Institution → Type 0
HoldsInAt v db i =
    IsOfVersion v db.schema × HoldsAt v db.trees (tables_at v i) × KeepsJournalAt v db.trees i.journal
    × TellsRequests i.journal

-- whatever lists the tables of a version hold, they are these
abbrev pub AreAllHeld : Version → Database → Lists → Type 0
AreAllHeld v db tables =
    IsOfVersion v db.schema × ((lists : Lists) → HoldsAt v db.trees lists → tables ≡ lists_at v lists)

-- a database holds no sound institution
abbrev pub HoldsNone : Database → Type 0
HoldsNone db = (v : Version) (i : Institution) → IsSound i → ¬ HoldsInAt v db i

-- it is so of whatever rows the journal's table keeps
abbrev pub OfKept : Trees → (List Filed → Type 0) → Type 0
OfKept trees P = (rows : List Filed) → KeepsLines journal (trees 23) rows → P rows

-- the rows in the journal's table are none, or no beginning stands first, or this is wrong with the first that is
-- wrong; or they are those of a journal whose line with this number is the first that tells no request
abbrev pub IsBroken : Trees → BrokenJournal → Type 0
IsBroken trees NoRows = OfKept trees (λ rows. IsFound rows Nothing)
IsBroken trees NoBeginning = OfKept trees (λ rows. IsFound rows NoFirst)
IsBroken trees (Row flaw) = OfKept trees (λ rows. IsFound rows (Flawed flaw))
IsBroken trees (NoRequest number) =
    (found : Journal) × (to : KeepsTo found trees) × IsUntoldAt found.begins.number to.lines number

-- the trees keep the lines of a journal that begins and stands so, and of no other
pub record KeepsOnly (found : Journal) (trees : Trees) : Type 0 where
  pub to : KeepsTo found trees
  pub only : (begins : Head) (lines : List JournalLine) → KeepsJournalFrom begins trees lines → found.begins ≡ begins

-- what is said of a database
abbrev pub IsAuditOf : Database → Audit → Type 0
IsAuditOf db NoTables = db.schema ≡ no_schema
IsAuditOf db OtherTables = (db.schema ≢ no_schema) × (¬ IsKnown db.schema)
IsAuditOf db (Sound version tables sums suspects) =
    AreSumsOf (HoldsInAt version db) sums.items × AreAllHeld version db tables × AreSuspectsOf tables suspects.items
IsAuditOf db (Unsound version tables findings) =
    HoldsNone db × AreAllHeld version db tables × AllBreak version tables findings.items
IsAuditOf db (Unreadable version unread) =
    IsOfVersion version db.schema × HoldsNone db × AreUnread version db unread.items
IsAuditOf db (audit.BrokenJournal broken) = IsOfVersion Third db.schema × HoldsNone db × IsBroken db.trees broken

-- an audit says that it found a sound institution
abbrev pub FindsSound : Audit → Type 0
FindsSound NoTables = ⊥
FindsSound OtherTables = ⊥
FindsSound (Sound version tables sums suspects) = Unit {0}
FindsSound (Unsound version tables findings) = ⊥
FindsSound (Unreadable version unread) = ⊥
FindsSound (audit.BrokenJournal broken) = ⊥

-- an audit says that it found a sound institution without a suspect entry
abbrev pub FindsNoSuspect : Audit → Type 0
FindsNoSuspect NoTables = ⊥
FindsNoSuspect OtherTables = ⊥
FindsNoSuspect (Sound version tables sums suspects) = suspects.items ≡ []
FindsNoSuspect (Unsound version tables findings) = ⊥
FindsNoSuspect (Unreadable version unread) = ⊥
FindsNoSuspect (audit.BrokenJournal broken) = ⊥

-- an audit of a database tells all that is found: of rows that no sound institution has, and of such as no record can
-- hold; and which entries of sound ones are suspect
abbrev pub TellsAll : Database → Audit → Type 0
TellsAll db NoTables = Unit {0}
TellsAll db OtherTables = Unit {0}
TellsAll db (Sound version tables sums suspects) = AreSuspects tables suspects.items
TellsAll db (Unsound version tables findings) = AreFindings version tables findings.items
TellsAll db (Unreadable version unread) = AreToldOfAll db (tables_searched version) unread.items
TellsAll db (audit.BrokenJournal broken) = Unit {0}

-- the trees keep a journal that the program can have written, each line of which tells a request
abbrev pub KeepsSomeJournal : Trees → Type 0
KeepsSomeJournal trees =
    (journal : Option (List JournalLine)) × KeepsJournalAt Third trees journal × TellsRequests journal

-- the audit of the other tables is that of all, but where it finds a sound institution and no journal is kept it tells
-- what is wrong with that
abbrev pub IsWithJournal : Trees → Audit → Audit → Type 0
IsWithJournal trees others whole = ((whole ≡ others) × (FindsSound others → KeepsSomeJournal trees))
    ⊎ ((broken : BrokenJournal) × (whole ≡ audit.BrokenJournal broken) × (¬ KeepsSomeJournal trees)
    × IsBroken trees broken)
