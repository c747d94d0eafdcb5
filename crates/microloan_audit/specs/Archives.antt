-- What is said of archives: where some are missing, and why a file is none.
use Rattle.std.specs.Prelude.{ℕ, List, ◌++◌, codes, decimal}
use Rattle.mf_store_archived.specs.declared.checking.Unread.{Unread}
use Rattle.mf_store_archived.specs.declared.checking.Unread.TheVariants.{NoArchive, Flawed, Failed}
use Rattle.mf_store_archived.specs.declared.joining.Gap.{Gap}
use Rattle.mf_store_archived.specs.declared.joining.Gap.TheVariants.{Missing, Unjoined}
use Rattle.microloan_audit.specs.Journal.{flaw_line}

-- an archive by the numbers of its lines
abbrev pub archive_of : ℕ → ℕ → List ℕ → List ℕ
archive_of from to words = codes "journal: the archive of lines " ++ (decimal from ++ (codes " to " ++ (decimal to
    ++ words)))

-- where archives don't lead from where a journal begins back to its first line
abbrev pub gap_line : Gap → List ℕ
gap_line (Missing from to) = archive_of from to (codes " is missing")
gap_line (Unjoined from to) = archive_of from to (codes " does not join what comes after it")

-- why no archive is made of a file
abbrev pub unread_text : Unread → List ℕ
unread_text NoArchive = codes "it is no archive of a journal"
unread_text (Flawed flaw) = flaw_line flaw
unread_text (Failed fault) = codes "it is no database, or out of memory"
