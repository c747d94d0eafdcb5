-- The commands of the program and their options, as `clap` reads them.
use Rattle.std.specs.Prelude.{List, [], ◌∷◌, codes, fold, Some, true}
use Rattle.clap.specs.Words.{App, Rule, Text, new_app, new_rule, with_rule, with_subcommand}
use Rattle.clap.specs.declared.builder.action.ArgAction.TheVariants.{SetTrue}
use Rattle.microloan_words.specs.declared.options.CommandOption.{CommandOption}
use Rattle.microloan_words.specs.declared.options.Need.{Need}
use Rattle.microloan_words.specs.declared.options.Need.TheVariants.{Optional, Required, Default, Flag}

-- an option by its long name, with one value
abbrev pub option_rule : Text → Rule
option_rule id = record (new_rule id) { long = Some id; value_names = 1 }

-- an option that must be given
abbrev pub required_rule : Text → Rule
required_rule id = record (option_rule id) { required = true }

-- an option with the text that stands where it isn't given
abbrev pub default_rule : Text → Text → Rule
default_rule id text = record (option_rule id) { defaults = text ∷ [] }

-- a flag by its long name, without a value
abbrev pub flag_rule : Text → Rule
flag_rule id = record (new_rule id) { long = Some id; action = Some SetTrue }

-- an option as the program's tables declare it
abbrev pub rule_needed : Text → Need → Rule
rule_needed id Optional = option_rule id
rule_needed id Required = required_rule id
rule_needed id (Default text) = default_rule id text.now
rule_needed id Flag = flag_rule id

-- the rule by which clap reads an option
abbrev pub rule_for : CommandOption → Rule
rule_for option = rule_needed option.id.now option.need

-- a command with one more of these
abbrev pub with_declared : App → CommandOption → App
with_declared app option = with_rule app (rule_for option)

-- a command by its name, with its options
abbrev pub app_with : Text → List Rule → App
app_with name rules = fold with_rule (new_app name) rules

-- `batch` with its options
abbrev pub batch_app : App
batch_app = app_with (codes "batch") (
    option_rule (codes "file")
    ∷ default_rule (codes "day") (codes "2024-01-01")
    ∷ flag_rule (codes "existing")
    ∷ flag_rule (codes "journal")
    ∷ flag_rule (codes "told")
    ∷ flag_rule (codes "lists")
    ∷ [])

-- `serve` with its options
abbrev pub serve_app : App
serve_app = app_with (codes "serve") (
    required_rule (codes "file")
    ∷ required_rule (codes "port")
    ∷ default_rule (codes "count") (codes "0")
    ∷ default_rule (codes "patience") (codes "10")
    ∷ default_rule (codes "day") (codes "2024-01-01")
    ∷ flag_rule (codes "existing")
    ∷ flag_rule (codes "journal")
    ∷ flag_rule (codes "lists")
    ∷ [])

-- `collect` with its options
abbrev pub collect_app : App
collect_app = app_with (codes "collect") (
    required_rule (codes "file")
    ∷ required_rule (codes "staff")
    ∷ flag_rule (codes "existing")
    ∷ flag_rule (codes "journal")
    ∷ option_rule (codes "told")
    ∷ [])

-- `report` with its options
abbrev pub report_app : App
report_app = app_with (codes "report") (
    required_rule (codes "file")
    ∷ required_rule (codes "staff")
    ∷ flag_rule (codes "existing")
    ∷ [])

-- a command over a file alone
abbrev pub file_app : Text → App
file_app name = app_with name (required_rule (codes "file") ∷ [])

-- `audit` with its options
abbrev pub audit_app : App
audit_app = app_with (codes "audit") (
    required_rule (codes "file")
    ∷ flag_rule (codes "all")
    ∷ option_rule (codes "from")
    ∷ option_rule (codes "archives")
    ∷ [])

-- `upgrade` with its options
abbrev pub upgrade_app : App
upgrade_app = app_with (codes "upgrade") (
    required_rule (codes "file")
    ∷ flag_rule (codes "existing")
    ∷ flag_rule (codes "journal")
    ∷ [])

-- `archive` with its options
abbrev pub archive_app : App
archive_app = app_with (codes "archive") (
    required_rule (codes "file")
    ∷ flag_rule (codes "existing")
    ∷ required_rule (codes "to")
    ∷ required_rule (codes "into")
    ∷ [])

-- `ledger` with its options
abbrev pub ledger_app : App
ledger_app = app_with (codes "ledger") (
    required_rule (codes "file")
    ∷ flag_rule (codes "existing")
    ∷ required_rule (codes "from")
    ∷ required_rule (codes "to")
    ∷ flag_rule (codes "csv")
    ∷ flag_rule (codes "beancount")
    ∷ flag_rule (codes "accrual")
    ∷ option_rule (codes "names")
    ∷ option_rule (codes "from-copy")
    ∷ [])

-- `portions` with its options
abbrev pub portions_app : App
portions_app = app_with (codes "portions") (
    required_rule (codes "file")
    ∷ flag_rule (codes "existing")
    ∷ option_rule (codes "from")
    ∷ option_rule (codes "to")
    ∷ [])

-- `schedule` with its options
abbrev pub schedule_app : App
schedule_app = app_with (codes "schedule") (
    required_rule (codes "method")
    ∷ required_rule (codes "principal")
    ∷ required_rule (codes "rate")
    ∷ required_rule (codes "periods")
    ∷ required_rule (codes "day")
    ∷ default_rule (codes "frequency") (codes "months")
    ∷ default_rule (codes "every") (codes "1")
    ∷ default_rule (codes "principal-grace") (codes "0")
    ∷ default_rule (codes "interest-grace") (codes "0")
    ∷ [])

-- the program, which has a version and wants a command
abbrev pub bare_app : App
bare_app =
    let top = (new_app (codes "microloan")).top in
    record {
      top = record top { has_version = true; subcommand_required = true; disable_help_subcommand = true };
      subs = [];
    }

-- the program with the commands over an institution
abbrev pub desk_app : App
desk_app = with_subcommand (with_subcommand (with_subcommand (with_subcommand bare_app batch_app.top) serve_app.top)
    collect_app.top) report_app.top

-- the program with its commands
abbrev pub microloan_app : App
microloan_app = with_subcommand (with_subcommand (with_subcommand (with_subcommand (with_subcommand (with_subcommand
    (with_subcommand desk_app schedule_app.top) (file_app (codes "why")).top) audit_app.top) upgrade_app.top)
    archive_app.top) ledger_app.top) portions_app.top
