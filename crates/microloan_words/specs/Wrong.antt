-- Which option is told to be wrong: the first that isn't as it should be, in the order in which the command takes them.
use Rattle.std.specs.Prelude.{◌≡◌, ◌⊎◌, ℕ, Bool, true, List, [], ◌∷◌, codes, Option, Some, None, is_some}
use Rattle.clap.specs.Words.{Row, Text, first_of}
use Rattle.mf_base.specs.Choices.{frequency_name}
use Rattle.mf_base.specs.declared.day.Freq.{Freq}
use Rattle.mf_catalog.specs.Limits.{greatest_amount, greatest_rate, most_grace, most_periods, longest_step}
use Rattle.mf_catalog.specs.Names.{method_name}
use Rattle.mf_catalog.specs.declared.terms.Method.{Method}
use Rattle.mf_office.specs.declared.caller.Caller.{Caller}
use Rattle.microloan_words.specs.Asked.{IsNumberAt, IsDayAt, IsCallerAt, IsCountAt, IsToldAt, flag_text}
use Rattle.microloan_words.specs.Asked.{most_patience, IsSpanAt, IsFormAt}
use Rattle.microloan_words.specs.declared.asked.LedgerForm.{LedgerForm}
use Rattle.microloan_words.specs.declared.reading.Wrong.{Wrong}
use Rattle.microloan_words.specs.declared.reading.Wrong.TheVariants.{File, Existing, Journal, All, Port, Count}
use Rattle.microloan_words.specs.declared.reading.Wrong.TheVariants.{Beginning, Patience, Staff}
use Rattle.microloan_words.specs.declared.reading.Wrong.TheVariants.{Method as MethodOption, Principal, Rate, Periods}
use Rattle.microloan_words.specs.declared.reading.Wrong.TheVariants.{Day, Frequency, Every, PrincipalGrace}
use Rattle.microloan_words.specs.declared.reading.Wrong.TheVariants.{InterestGrace, Told, ToldOfLines, Lists, Into}
use Rattle.microloan_words.specs.declared.reading.Wrong.TheVariants.{From, To, Span, Csv, Beancount, Form, Accrual}

-- a flag is given or not
abbrev pub IsFlag : List Row → Text → Type 0
IsFlag rows id = (given : Bool) × (first_of id rows ≡ Some (flag_text given))

-- a number within its limits is given
abbrev pub IsSomeNumber : List Row → Text → ℕ → ℕ → Type 0
IsSomeNumber rows id least greatest = (number : ℕ) × IsNumberAt rows id least greatest number

-- what is told is given as it should be, or not at all
abbrev pub IsToldWell : List Row → Type 0
IsToldWell rows = (told : Option Text) × IsToldAt rows told

-- the option is as it should be
abbrev pub IsRight : List Row → Wrong → Type 0
IsRight rows File = (path : Text) × (first_of (codes "file") rows ≡ Some path)
IsRight rows Existing = IsFlag rows (codes "existing")
IsRight rows Journal = IsFlag rows (codes "journal")
IsRight rows Told = IsFlag rows (codes "told")
IsRight rows ToldOfLines = IsToldWell rows
IsRight rows Lists = IsFlag rows (codes "lists")
IsRight rows All = IsFlag rows (codes "all")
IsRight rows Beginning = (first_of (codes "from") rows ≡ None) ⊎ (first_of (codes "archives") rows ≡ None)
IsRight rows From = (day : ℕ) × IsDayAt rows (codes "from") day
IsRight rows To = (day : ℕ) × IsDayAt rows (codes "to") day
IsRight rows Span = (first : ℕ) × (last : ℕ) × IsSpanAt rows first last
IsRight rows Csv = IsFlag rows (codes "csv")
IsRight rows Beancount = IsFlag rows (codes "beancount")
IsRight rows Form = (form : LedgerForm) × IsFormAt rows form
IsRight rows Accrual = IsFlag rows (codes "accrual")
IsRight rows Port = IsSomeNumber rows (codes "port") 1 65535
IsRight rows Count = (count : ℕ) × IsCountAt rows (codes "count") count
IsRight rows Patience = IsSomeNumber rows (codes "patience") 1 most_patience
IsRight rows Staff = (staff : Caller) × IsCallerAt rows (codes "staff") staff
IsRight rows MethodOption = (method : Method) × (first_of (codes "method") rows ≡ Some (method_name method))
IsRight rows Principal = IsSomeNumber rows (codes "principal") 1 greatest_amount
IsRight rows Rate = IsSomeNumber rows (codes "rate") 0 greatest_rate
IsRight rows Periods = IsSomeNumber rows (codes "periods") 1 most_periods
IsRight rows Day = (day : ℕ) × IsDayAt rows (codes "day") day
IsRight rows Frequency = (frequency : Freq) × (first_of (codes "frequency") rows ≡ Some (frequency_name frequency))
IsRight rows Every = (frequency : Freq) × (first_of (codes "frequency") rows ≡ Some (frequency_name frequency))
    × IsSomeNumber rows (codes "every") 1 (longest_step frequency)
IsRight rows PrincipalGrace = IsSomeNumber rows (codes "principal-grace") 0 most_grace
IsRight rows InterestGrace = IsSomeNumber rows (codes "interest-grace") 0 most_grace
IsRight rows Into = (path : Text) × (first_of (codes "into") rows ≡ Some path)

-- the first of these options that isn't as it should be
abbrev pub IsFirstWrong : List Row → List Wrong → Wrong → Type 0
IsFirstWrong rows [] wrong = ⊥
IsFirstWrong rows (option ∷ options) wrong =
    ((wrong ≡ option) × (¬ IsRight rows option)) ⊎ (IsRight rows option × IsFirstWrong rows options wrong)

-- the options of `serve`, in the order in which a wrong one is told
abbrev pub serve_options : List Wrong
serve_options = File ∷ Port ∷ Count ∷ Patience ∷ Day ∷ Existing ∷ Journal ∷ Lists ∷ []

-- of `collect`
abbrev pub collect_options : List Wrong
collect_options = File ∷ Staff ∷ Existing ∷ Journal ∷ ToldOfLines ∷ []

-- of `report`
abbrev pub staff_options : List Wrong
staff_options = File ∷ Staff ∷ Existing ∷ []

-- of `why`
abbrev pub file_options : List Wrong
file_options = File ∷ []

-- of `audit`
abbrev pub audit_options : List Wrong
audit_options = File ∷ All ∷ Beginning ∷ []

-- of `upgrade`
abbrev pub upgrade_options : List Wrong
upgrade_options = File ∷ Existing ∷ Journal ∷ []

-- of `archive`
abbrev pub archive_options : List Wrong
archive_options = File ∷ Existing ∷ To ∷ Into ∷ []

-- of the span of `ledger`
abbrev pub span_options : List Wrong
span_options = From ∷ To ∷ Span ∷ []

-- of its form
abbrev pub form_options : List Wrong
form_options = Csv ∷ Beancount ∷ Form ∷ []

-- of `ledger`
abbrev pub ledger_options : List Wrong
ledger_options = File ∷ Existing ∷ From ∷ To ∷ Span ∷ Csv ∷ Beancount ∷ Form ∷ Accrual ∷ []

-- of `portions`, before those of its span
abbrev pub portions_options : List Wrong
portions_options = File ∷ Existing ∷ []

-- an option of the span is given
abbrev pub IsSpanNamed : List Row → Type 0
IsSpanNamed rows =
    (is_some (first_of (codes "from") rows) ≡ true) ⊎ (is_some (first_of (codes "to") rows) ≡ true)

-- the option of `portions` that is told to be wrong: the first of these, or of those of a span that is named
abbrev pub IsPortionsWrong : List Row → Wrong → Type 0
IsPortionsWrong rows wrong = IsFirstWrong rows portions_options wrong
    ⊎ (IsRight rows File × IsRight rows Existing × IsSpanNamed rows × IsFirstWrong rows span_options wrong)

-- of `schedule`
abbrev pub schedule_options : List Wrong
schedule_options = MethodOption ∷ Principal ∷ Rate ∷ Periods ∷ Day ∷ Frequency ∷ Every ∷ PrincipalGrace ∷ InterestGrace
    ∷ []

-- of `batch`, these; and then the first flag that wants a file, where none is named, or a journal, where none is kept
abbrev pub batch_options : List Wrong
batch_options = Day ∷ Existing ∷ Journal ∷ Told ∷ Lists ∷ []

-- the flag stands there, and no file is named
abbrev pub WantsFile : List Row → Text → Type 0
WantsFile rows id = (first_of id rows ≡ Some (codes "true")) × (¬ IsRight rows File)

-- the option of `batch` that is told to be wrong
abbrev pub IsBatchWrong : List Row → Wrong → Type 0
IsBatchWrong rows wrong = IsFirstWrong rows batch_options wrong
    ⊎ (IsRight rows Day × IsRight rows Journal × IsRight rows Told × IsRight rows Lists
    × WantsFile rows (codes "existing") × (wrong ≡ Existing))
    ⊎ (IsRight rows Day × (first_of (codes "existing") rows ≡ Some (codes "false")) × IsRight rows Told
    × IsRight rows Lists × WantsFile rows (codes "journal") × (wrong ≡ Journal))
    ⊎ (IsRight rows Day × IsRight rows Existing × (WantsFile rows (codes "existing") → ⊥)
    × (first_of (codes "journal") rows ≡ Some (codes "false")) × (first_of (codes "told") rows ≡ Some (codes "true"))
    × IsRight rows Lists × (wrong ≡ Told))
    ⊎ (IsRight rows Day × (first_of (codes "existing") rows ≡ Some (codes "false"))
    × (first_of (codes "journal") rows ≡ Some (codes "false")) × (first_of (codes "told") rows ≡ Some (codes "false"))
    × WantsFile rows (codes "lists") × (wrong ≡ Lists))

-- the option of `collect` that is told to be wrong: the first of these, or what is told where no journal is kept
abbrev pub IsCollectWrong : List Row → Wrong → Type 0
IsCollectWrong rows wrong = IsFirstWrong rows collect_options wrong
    ⊎ (IsRight rows File × IsRight rows Staff × IsRight rows Existing
    × (first_of (codes "journal") rows ≡ Some (codes "false"))
    × ((text : Text) × IsToldAt rows (Some text)) × (wrong ≡ Told))
