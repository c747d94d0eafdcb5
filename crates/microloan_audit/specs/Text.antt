-- The text of an audit, and of a verdict.
use Rattle.std.specs.Prelude.{ℕ, List, [], ◌∷◌, ◌++◌, codes, Option, Some, None}
use Rattle.std.specs.List.{flat_map}
use Rattle.mf_store_schema.specs.Rows.{Lists}
use Rattle.mf_store_schema.specs.Versions.{number_of}
use Rattle.mf_store_audit.specs.declared.audits.Audit.{Audit}
use Rattle.mf_store_audit.specs.declared.audits.Audit.TheVariants.{NoTables, OtherTables, Sound, Unsound, Unreadable}
use Rattle.mf_store_audit.specs.declared.audits.Audit.TheVariants as audit
use Rattle.mf_store_audit.specs.declared.finding.Finding.{Finding}
use Rattle.mf_store_audit.specs.declared.journal.BrokenJournal.{BrokenJournal}
use Rattle.mf_store_audit.specs.declared.unread.Unread.{Unread}
use Rattle.mf_store_played.specs.declared.played.Played.{Played}
use Rattle.mf_store_played.specs.declared.played.Played.TheVariants.{Leads, NoFounding, Stops, Differs, OtherCopy}
use Rattle.mf_store_played.specs.declared.played.Played.TheVariants.{Lacks}
use Rattle.mf_store_verdict.specs.declared.verdict.Verdict.{Verdict}
use Rattle.microloan_audit.specs.Archives.{gap_line}
use Rattle.microloan_audit.specs.Journal.{journal_line}
use Rattle.microloan_audit.specs.Lines.{finding_line}
use Rattle.microloan_audit.specs.Played.{difference_line, leads_line, other_copy_line, stop_line, unplayed_line}
use Rattle.microloan_audit.specs.SumsText.{sums_text}
use Rattle.microloan_audit.specs.Unread.{unread_line}

-- a line where something is found to be wrong
unfoldable pub audit_line : List ℕ → List ℕ
audit_line words = codes "audit: " ++ (words ++ codes "\n")

-- a line for each finding
abbrev pub findings_text : Lists → List Finding → List ℕ
findings_text lists findings = flat_map (λ (f : Finding). audit_line (finding_line lists f)) findings

-- a line of a suspect entry
unfoldable pub suspect_line : List ℕ → List ℕ
suspect_line words = codes "suspect: " ++ (words ++ codes "\n")

-- a line for each suspect entry
abbrev pub suspects_text : Lists → List Finding → List ℕ
suspects_text lists suspects = flat_map (λ (f : Finding). suspect_line (finding_line lists f)) suspects

-- a line for each row that no record can hold
abbrev pub unread_lines : List Unread → List ℕ
unread_lines unread = flat_map (λ (u : Unread). audit_line (unread_line u)) unread

-- the same; or that there is one, where none is named
abbrev pub unread_text : List Unread → List ℕ
unread_text [] = audit_line (codes "a row that can't be read")
unread_text (first ∷ later) = unread_lines (first ∷ later)

-- the line of a journal that the program cannot have written
abbrev pub journal_text : BrokenJournal → List ℕ
journal_text broken = audit_line (journal_line broken)

-- what an audit prints with this last line: of a sound institution its sums, the line, and a line for each suspect
-- entry, else lines that begin with `audit:`
abbrev pub text_ending : List ℕ → Audit → List ℕ
text_ending last NoTables = audit_line (codes "the database has no tables")
text_ending last OtherTables = audit_line (codes "the database has other tables than this program makes")
text_ending last (Sound version tables sums suspects) =
    sums_text (number_of version) sums.items last ++ suspects_text tables suspects.items
text_ending last (Unsound version tables findings) = findings_text tables findings.items
text_ending last (Unreadable version unread) = unread_text unread.items
text_ending last (audit.BrokenJournal broken) = journal_text broken

-- what an audit prints where no journal was played: of a sound institution its sums, the word `sound`, and a line for
-- each suspect entry
abbrev pub audit_text : Audit → List ℕ
audit_text = text_ending (codes "sound")

-- What a verdict prints: of sound tables to which their journal leads, or whose journal begins at no founding, that in
-- the last line. Else the line at which the play stops, or the first row that it doesn't give, or that the journal was
-- begun over other rows than the copy's, or which archive is missing.
abbrev pub text_played : Audit → Option Played → List ℕ
text_played found None = audit_text found
text_played found (Some (Leads head)) = text_ending (leads_line head) found
text_played found (Some (NoFounding head)) = text_ending (unplayed_line head) found
text_played found (Some (Stops number why)) = audit_line (stop_line number why)
text_played found (Some (Differs difference)) = audit_line (difference_line difference)
text_played found (Some (OtherCopy head)) = audit_line (other_copy_line head)
text_played found (Some (Lacks gap)) = audit_line (gap_line gap)

-- the same of a verdict
abbrev pub verdict_text : Verdict → List ℕ
verdict_text v = text_played v.audit v.played
