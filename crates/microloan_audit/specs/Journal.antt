-- What is said of a journal that the program cannot have written.
use Rattle.std.specs.Prelude.{ℕ, List, ◌++◌, codes}
use Rattle.std.specs.Fmt.{decimal}
use Rattle.mf_journal.specs.declared.following.Break.{Break}
use Rattle.mf_journal.specs.declared.following.Break.TheVariants.{Number, Day, Chain}
use Rattle.mf_play.specs.declared.stop.Stop.TheVariants as stop
use Rattle.mf_store_journal.specs.declared.checking.Flaw.{Flaw}
use Rattle.mf_store_journal.specs.declared.checking.Flaw.TheVariants.{Broken, NoLine}
use Rattle.mf_store_audit.specs.declared.journal.BrokenJournal.{BrokenJournal}
use Rattle.mf_store_audit.specs.declared.journal.BrokenJournal.TheVariants.{NoRows, NoBeginning, Row, NoRequest}
use Rattle.microloan_audit.specs.Played.{stop_line}

-- the condition by which a line does not follow on those before it
abbrev pub break_words : Break → List ℕ
break_words Number = codes "its number is not the next one"
break_words Day = codes "its day is earlier than that of the line before it"
break_words Chain = codes "its chain is not that over all lines before it and itself"

-- the line by its number, and what is wrong with it
abbrev pub flaw_line : Flaw → List ℕ
flaw_line (Broken number flaw) = codes "journal " ++ (decimal number ++ (codes ": " ++ break_words flaw))
flaw_line (NoLine after) =
    codes "journal: the row after number " ++ (decimal after ++ codes " has values that no line has")

-- what is wrong with the journal
abbrev pub journal_line : BrokenJournal → List ℕ
journal_line NoRows = codes "journal: no row says where it begins"
journal_line NoBeginning = codes "journal: its first row does not say where it begins"
journal_line (Row flaw) = flaw_line flaw
journal_line (NoRequest number) = stop_line number stop.NoRequest
