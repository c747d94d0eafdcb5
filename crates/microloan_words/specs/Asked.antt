-- What the program is asked to do, as it follows from the words.
use Rattle.std.specs.Prelude.{◌≡◌, ◌⊎◌, ℕ, ◌<◌, ◌≤◌, ◌==◌, Bool, true, false, IsTrue, List, length, codes, Option}
use Rattle.std.specs.Prelude.{Some, None, is_some, IfSome, Result, Ok, IfOk, IfErr, if◌then◌else◌}
use Rattle.std.specs.Str.Parse.{IsNumeral, digits_value, without_leading_plus}
use Rattle.clap.specs.Words.{Row, Text, Kinds, first_of, subcommand_of, fault_of}
use Rattle.mf_base.specs.Choices.{frequency_name}
use Rattle.mf_base.specs.DayText.{day_text, last_entered_day}
use Rattle.mf_catalog.specs.Limits.{greatest_amount, greatest_rate, most_grace, most_periods, longest_step}
use Rattle.mf_catalog.specs.Names.{method_name}
use Rattle.mf_office.specs.Texts.{IsCaller}
use Rattle.mf_wire_lines.specs.Told.{may_be_told}
use Rattle.mf_office.specs.Written.{caller_text}
use Rattle.mf_office.specs.declared.caller.Caller.{Caller}
use Rattle.microloan_words.specs.Options.{microloan_app}
use Rattle.microloan_words.specs.declared.asked.BatchWords.{BatchWords}
use Rattle.microloan_words.specs.declared.asked.ServeWords.{ServeWords}
use Rattle.microloan_words.specs.declared.asked.CollectWords.{CollectWords}
use Rattle.microloan_words.specs.declared.asked.StaffWords.{StaffWords}
use Rattle.microloan_words.specs.declared.asked.FileWords.{FileWords}
use Rattle.microloan_words.specs.declared.asked.AuditWords.{AuditWords}
use Rattle.microloan_words.specs.declared.asked.UpgradeWords.{UpgradeWords}
use Rattle.microloan_words.specs.declared.asked.ArchiveWords.{ArchiveWords}
use Rattle.microloan_words.specs.declared.asked.LedgerForm.{LedgerForm}
use Rattle.microloan_words.specs.declared.asked.LedgerForm.TheVariants.{Hledger, Beancount, Sheet}
use Rattle.microloan_words.specs.declared.asked.LedgerWords.{LedgerWords}
use Rattle.microloan_words.specs.declared.asked.DaySpan.{DaySpan}
use Rattle.microloan_words.specs.declared.asked.PortionsWords.{PortionsWords}
use Rattle.microloan_words.specs.declared.asked.ScheduleWords.{ScheduleWords}
use Rattle.microloan_words.specs.declared.asked.Words.{Words}
use Rattle.microloan_words.specs.declared.asked.Words.TheVariants.{Bad, Help, Version, Memory}
use Rattle.microloan_words.specs.declared.asked.Command.{Command}
use Rattle.microloan_words.specs.declared.asked.Command.TheVariants.{Batch, Serve, Collect, Report, Schedule, Why}
use Rattle.microloan_words.specs.declared.asked.Command.TheVariants.{Audit, Upgrade, Archive, Ledger, Portions}

-- the option's text is this number in decimal digits, and the number lies in its limits
pub record IsNumberAt (rows : List Row) (id : Text) (least greatest number : ℕ) : Type 0 where
  pub text : Text
  pub given : first_of id rows ≡ Some text
  pub numeral : IsNumeral 10 (without_leading_plus text)
  pub value : digits_value 10 (without_leading_plus text) ≡ number
  pub low : least ≤ number
  pub high : number ≤ greatest

-- the option's text is that of this day, which may be entered
pub record IsDayAt (rows : List Row) (id : Text) (day : ℕ) : Type 0 where
  pub given : first_of id rows ≡ Some (day_text day)
  pub entered : day ≤ last_entered_day

-- the option's text is that of this member of staff
pub record IsCallerAt (rows : List Row) (id : Text) (caller : Caller) : Type 0 where
  pub given : first_of id rows ≡ Some (caller_text caller.office caller.staff)
  pub valid : IsCaller caller

-- the greatest count
abbrev pub most_connections : ℕ
most_connections = 18446744073709551615

-- the most seconds that a silent client is waited for
abbrev pub most_patience : ℕ
most_patience = 3600

-- the text of a flag that is given, and of one that isn't
abbrev pub flag_text : Bool → Text
flag_text true = codes "true"
flag_text false = codes "false"

-- as many as a number says, and 0 says as many as can be counted
abbrev pub connections : ℕ → ℕ
connections number = if number == 0 then most_connections else number

-- the option's text is a number, and asks for so many connections
pub record IsCountAt (rows : List Row) (id : Text) (count : ℕ) : Type 0 where
  pub number : ℕ
  pub given : IsNumberAt rows id 0 most_connections number
  pub asks : connections number ≡ count

-- a text that may be told, and says something
pub record IsTold (text : Text) : Type 0 where
  pub some : 0 < length text
  pub may : may_be_told text ≡ true

-- the text of the option that tells, if it is given
pub record IsToldAt (rows : List Row) (told : Option Text) : Type 0 where
  pub given : first_of (codes "told") rows ≡ told
  pub right : IfSome told IsTold

-- the options of `batch`: a file may be named, and must be where no new institution is to be made, a journal is kept or
-- lists are answered; first words are told where a journal is kept
pub record AreBatchWords (rows : List Row) (asked : BatchWords) : Type 0 where
  pub file : first_of (codes "file") rows ≡ asked.file
  pub day : IsDayAt rows (codes "day") asked.day
  pub existing : first_of (codes "existing") rows ≡ Some (flag_text asked.existing)
  pub journal : first_of (codes "journal") rows ≡ Some (flag_text asked.journal)
  pub named : IsTrue asked.existing → is_some asked.file ≡ true
  pub journal_named : IsTrue asked.journal → is_some asked.file ≡ true
  pub told : first_of (codes "told") rows ≡ Some (flag_text asked.told)
  pub told_noted : IsTrue asked.told → asked.journal ≡ true
  pub lists : first_of (codes "lists") rows ≡ Some (flag_text asked.lists)
  pub lists_named : IsTrue asked.lists → is_some asked.file ≡ true

-- the options of `serve`
pub record AreServeWords (rows : List Row) (asked : ServeWords) : Type 0 where
  pub file : first_of (codes "file") rows ≡ Some asked.file
  pub port : IsNumberAt rows (codes "port") 1 65535 asked.port
  pub count : IsCountAt rows (codes "count") asked.count
  pub patience : IsNumberAt rows (codes "patience") 1 most_patience asked.patience
  pub day : IsDayAt rows (codes "day") asked.day
  pub existing : first_of (codes "existing") rows ≡ Some (flag_text asked.existing)
  pub journal : first_of (codes "journal") rows ≡ Some (flag_text asked.journal)
  pub lists : first_of (codes "lists") rows ≡ Some (flag_text asked.lists)

-- the options of `collect`: something may be told of its lines where a journal is kept
pub record AreCollectWords (rows : List Row) (asked : CollectWords) : Type 0 where
  pub file : first_of (codes "file") rows ≡ Some asked.file
  pub staff : IsCallerAt rows (codes "staff") asked.staff
  pub existing : first_of (codes "existing") rows ≡ Some (flag_text asked.existing)
  pub journal : first_of (codes "journal") rows ≡ Some (flag_text asked.journal)
  pub told : IsToldAt rows asked.told
  pub told_noted : is_some asked.told ≡ true → asked.journal ≡ true

-- the options of `report`
pub record AreStaffWords (rows : List Row) (asked : StaffWords) : Type 0 where
  pub file : first_of (codes "file") rows ≡ Some asked.file
  pub staff : IsCallerAt rows (codes "staff") asked.staff
  pub existing : first_of (codes "existing") rows ≡ Some (flag_text asked.existing)

-- the options of a command over a file alone
pub record AreFileWords (rows : List Row) (asked : FileWords) : Type 0 where
  pub file : first_of (codes "file") rows ≡ Some asked.file

-- the options of `audit`
pub record AreAuditWords (rows : List Row) (asked : AuditWords) : Type 0 where
  pub file : first_of (codes "file") rows ≡ Some asked.file
  pub all : first_of (codes "all") rows ≡ Some (flag_text asked.all)
  pub from : first_of (codes "from") rows ≡ asked.from
  pub archives : first_of (codes "archives") rows ≡ asked.archives
  pub one : (asked.from ≡ None) ⊎ (asked.archives ≡ None)

-- the options of `upgrade`
pub record AreUpgradeWords (rows : List Row) (asked : UpgradeWords) : Type 0 where
  pub file : first_of (codes "file") rows ≡ Some asked.file
  pub existing : first_of (codes "existing") rows ≡ Some (flag_text asked.existing)
  pub journal : first_of (codes "journal") rows ≡ Some (flag_text asked.journal)

-- the options of `archive`
pub record AreArchiveWords (rows : List Row) (asked : ArchiveWords) : Type 0 where
  pub file : first_of (codes "file") rows ≡ Some asked.file
  pub existing : first_of (codes "existing") rows ≡ Some (flag_text asked.existing)
  pub to : IsDayAt rows (codes "to") asked.to
  pub into : first_of (codes "into") rows ≡ Some asked.into

-- the options' texts are those of these days, of which the first isn't after the last
pub record IsSpanAt (rows : List Row) (first last : ℕ) : Type 0 where
  pub from : IsDayAt rows (codes "from") first
  pub to : IsDayAt rows (codes "to") last
  pub in_order : first ≤ last

-- whether the flag of a sheet is given
abbrev pub is_csv : LedgerForm → Bool
is_csv Hledger = false
is_csv Beancount = false
is_csv Sheet = true

-- whether the flag of beancount is
abbrev pub is_beancount : LedgerForm → Bool
is_beancount Hledger = false
is_beancount Beancount = true
is_beancount Sheet = false

-- the flags of the form
pub record IsFormAt (rows : List Row) (form : LedgerForm) : Type 0 where
  pub csv : first_of (codes "csv") rows ≡ Some (flag_text (is_csv form))
  pub beancount : first_of (codes "beancount") rows ≡ Some (flag_text (is_beancount form))

-- the options of `ledger`
pub record AreLedgerWords (rows : List Row) (asked : LedgerWords) : Type 0 where
  pub file : first_of (codes "file") rows ≡ Some asked.file
  pub existing : first_of (codes "existing") rows ≡ Some (flag_text asked.existing)
  pub span : IsSpanAt rows asked.first asked.last
  pub form : IsFormAt rows asked.form
  pub accrual : first_of (codes "accrual") rows ≡ Some (flag_text asked.accrual)
  pub names : first_of (codes "names") rows ≡ asked.names
  pub copy : first_of (codes "from-copy") rows ≡ asked.copy

-- the options of a span of days, where one is asked for; and neither of them, where none is
abbrev pub IsSpanIn : List Row → Option DaySpan → Type 0
IsSpanIn rows None = (first_of (codes "from") rows ≡ None) × (first_of (codes "to") rows ≡ None)
IsSpanIn rows (Some span) = IsSpanAt rows span.first span.last

-- the options of `portions`
pub record ArePortionsWords (rows : List Row) (asked : PortionsWords) : Type 0 where
  pub file : first_of (codes "file") rows ≡ Some asked.file
  pub existing : first_of (codes "existing") rows ≡ Some (flag_text asked.existing)
  pub span : IsSpanIn rows asked.span

-- the options of `schedule`
pub record AreScheduleWords (rows : List Row) (asked : ScheduleWords) : Type 0 where
  pub method : first_of (codes "method") rows ≡ Some (method_name asked.method)
  pub principal : IsNumberAt rows (codes "principal") 1 greatest_amount asked.principal
  pub rate : IsNumberAt rows (codes "rate") 0 greatest_rate asked.rate
  pub periods : IsNumberAt rows (codes "periods") 1 most_periods asked.periods
  pub day : IsDayAt rows (codes "day") asked.day
  pub frequency : first_of (codes "frequency") rows ≡ Some (frequency_name asked.frequency)
  pub every : IsNumberAt rows (codes "every") 1 (longest_step asked.frequency) asked.every
  pub principal_grace : IsNumberAt rows (codes "principal-grace") 0 most_grace asked.principal_grace
  pub interest_grace : IsNumberAt rows (codes "interest-grace") 0 most_grace asked.interest_grace

-- each number within its limits
pub record IsWithinLimits (asked : ScheduleWords) : Type 0 where
  pub some_principal : 1 ≤ asked.principal
  pub most_principal : asked.principal ≤ greatest_amount
  pub most_rate : asked.rate ≤ greatest_rate
  pub most_periods : asked.periods ≤ most_periods
  pub day_entered : asked.day ≤ last_entered_day
  pub some_step : 1 ≤ asked.every
  pub longest_step : asked.every ≤ longest_step asked.frequency

-- a port that can be asked for, some connections, a patience within its limits, and a day that may be entered
pub record IsServeWithinLimits (asked : ServeWords) : Type 0 where
  pub some_port : 1 ≤ asked.port
  pub most_port : asked.port ≤ 65535
  pub some_count : 1 ≤ asked.count
  pub some_patience : 1 ≤ asked.patience
  pub most_patience : asked.patience ≤ most_patience
  pub day_entered : asked.day ≤ last_entered_day

-- a command's numbers are within their limits
abbrev pub HasLimits : Command → Type 0
HasLimits (Batch asked) = asked.day ≤ last_entered_day
HasLimits (Serve asked) = IsServeWithinLimits asked
HasLimits (Collect asked) = IsCaller asked.staff
HasLimits (Report asked) = IsCaller asked.staff
HasLimits (Schedule asked) = IsWithinLimits asked
HasLimits (Why asked) = Unit {0}
HasLimits (Audit asked) = Unit {0}
HasLimits (Upgrade asked) = Unit {0}
HasLimits (Archive asked) = asked.to ≤ last_entered_day
HasLimits (Ledger asked) = asked.first ≤ asked.last
HasLimits (Portions asked) = Unit {0}

-- the name of a command
abbrev pub name_of : Command → Text
name_of (Batch asked) = codes "batch"
name_of (Serve asked) = codes "serve"
name_of (Collect asked) = codes "collect"
name_of (Report asked) = codes "report"
name_of (Schedule asked) = codes "schedule"
name_of (Why asked) = codes "why"
name_of (Audit asked) = codes "audit"
name_of (Upgrade asked) = codes "upgrade"
name_of (Archive asked) = codes "archive"
name_of (Ledger asked) = codes "ledger"
name_of (Portions asked) = codes "portions"

-- the options are those of the command
abbrev pub AreWords : List Row → Command → Type 0
AreWords rows (Batch asked) = AreBatchWords rows asked
AreWords rows (Serve asked) = AreServeWords rows asked
AreWords rows (Collect asked) = AreCollectWords rows asked
AreWords rows (Report asked) = AreStaffWords rows asked
AreWords rows (Schedule asked) = AreScheduleWords rows asked
AreWords rows (Why asked) = AreFileWords rows asked
AreWords rows (Audit asked) = AreAuditWords rows asked
AreWords rows (Upgrade asked) = AreUpgradeWords rows asked
AreWords rows (Archive asked) = AreArchiveWords rows asked
AreWords rows (Ledger asked) = AreLedgerWords rows asked
AreWords rows (Portions asked) = ArePortionsWords rows asked

-- what a command and its options ask for, where `clap` found them
abbrev pub IsAskedIn : Option (Text × List Row) → Command → Type 0
IsAskedIn found asked = (rows : List Row) × (found ≡ Some (name_of asked, rows)) × AreWords rows asked

-- what the words ask for
abbrev pub IsAsked : List Text → Command → Type 0
IsAsked words asked = IsAskedIn (subcommand_of microloan_app words) asked

-- what `clap` finds wrong with the words: nothing, where it takes them
abbrev pub faults_of : List Text → Kinds
faults_of words = fault_of microloan_app words

-- the help was asked for
abbrev pub IsHelp : Words → Type 0
IsHelp (Help text) = Unit {0}
IsHelp (Version text) = ⊥
IsHelp (Bad line) = ⊥
IsHelp Memory = ⊥

-- the version was asked for
abbrev pub IsVersion : Words → Type 0
IsVersion (Help text) = ⊥
IsVersion (Version text) = Unit {0}
IsVersion (Bad line) = ⊥
IsVersion Memory = ⊥

-- the words are wrong
abbrev pub IsBad : Words → Type 0
IsBad (Help text) = ⊥
IsBad (Version text) = ⊥
IsBad (Bad line) = Unit {0}
IsBad Memory = ⊥

-- What is found is read as what it asks for, and refused, without help or the version, where it asks for nothing.
pub record Reads (found : Option (Text × List Row)) (result : Result Command Words) : Type 0 where
  pub asked : IfOk result (IsAskedIn found)
  pub limits : IfOk result HasLimits
  pub every : (asked : Command) → IsAskedIn found asked → result ≡ Ok asked
  pub help : IfErr result (λ refusal. IsHelp refusal → ⊥)
  pub version : IfErr result (λ refusal. IsVersion refusal → ⊥)
