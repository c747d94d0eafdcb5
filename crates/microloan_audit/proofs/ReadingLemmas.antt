-- How the texts of an audit and of a verdict begin.
use Rattle.std.proofs.Common.{◌≡◌, ◌↔◌, ℕ, List, [], ◌∷◌, ◌++◌, drop, Option, None, Some, refl, ap, arith}
use Rattle.std.specs.Prelude.{codes}
use Rattle.std.specs.List.{flat_map}
use Rattle.mf_store_schema.specs.Rows.{Lists}
use Rattle.mf_store_schema.specs.Versions.{number_of}
use Rattle.mf_store_audit.specs.Audits.{FindsSound}
use Rattle.mf_store_audit.specs.declared.audits.Audit.{Audit}
use Rattle.mf_store_audit.specs.declared.audits.Audit.TheVariants.{NoTables, OtherTables, Sound, Unsound, Unreadable}
use Rattle.mf_store_audit.specs.declared.audits.Audit.TheVariants as audit
use Rattle.mf_store_audit.specs.declared.finding.Finding.{Finding}
use Rattle.mf_store_audit.specs.declared.totals.OfficeSums.{OfficeSums}
use Rattle.mf_store_audit.specs.declared.unread.Unread.{Unread}
use Rattle.mf_store_played.specs.declared.played.Played.{Played}
use Rattle.mf_store_played.specs.declared.played.Played.TheVariants.{Leads, NoFounding, Stops, Differs, OtherCopy}
use Rattle.mf_store_played.specs.declared.played.Played.TheVariants.{Lacks}
use Rattle.mf_store_verdict.specs.Verdict.{IsPassed}
use Rattle.microloan_audit.specs.Archives.{gap_line}
use Rattle.microloan_audit.specs.Journal.{journal_line}
use Rattle.microloan_audit.specs.Lines.{finding_line}
use Rattle.microloan_audit.specs.Played.{difference_line, leads_line, other_copy_line, stop_line, unplayed_line}
use Rattle.microloan_audit.specs.Reading.{BeginsWith}
use Rattle.microloan_audit.specs.SumsText.{heading, sums_text, table_text}
use Rattle.microloan_audit.specs.Text.{audit_line, findings_text, suspects_text, text_ending, text_played, unread_text}
use Rattle.microloan_audit.specs.Unread.{unread_line}

-- the first byte of a text; 0 of none
abbrev first : List ℕ → ℕ
first [] = 0
first (byte ∷ bytes) = byte

line_and_more : (words more : List ℕ) → ¬ BeginsWith (codes "schema ") (audit_line words ++ more)
unfolding audit_line
line_and_more words more (rest, is) = let one : 97 ≡ 115 = ap first is in absurd (omega (arith, one))

line_alone : (words : List ℕ) → ¬ BeginsWith (codes "schema ") (audit_line words)
unfolding audit_line
line_alone words (rest, is) = let one : 97 ≡ 115 = ap first is in absurd (omega (arith, one))

of_findings : (lists : Lists) (found : List Finding) → ¬ BeginsWith (codes "schema ") (findings_text lists found)
of_findings lists [] (rest, is) = let one : 0 ≡ 115 = ap first is in absurd (omega (arith, one))
of_findings lists (f ∷ fs) begins =
    line_and_more (finding_line lists f) (flat_map (λ (f : Finding). audit_line (finding_line lists f)) fs) begins

of_unread : (unread : List Unread) → ¬ BeginsWith (codes "schema ") (unread_text unread)
of_unread [] begins = line_alone (codes "a row that can't be read") begins
of_unread (u ∷ us) begins =
    line_and_more (unread_line u) (flat_map (λ (u : Unread). audit_line (unread_line u)) us) begins

of_sums : (schema : ℕ) (sums : List OfficeSums) (last more : List ℕ)
    → BeginsWith (codes "schema ") (sums_text schema sums last ++ more)
unfolding heading sums_text table_text
of_sums schema sums last more = (drop 7 (sums_text schema sums last ++ more), refl)

of_audit : (last : List ℕ) (a : Audit) → BeginsWith (codes "schema ") (text_ending last a) ↔ FindsSound a
of_audit last NoTables = (λ b. line_alone (codes "the database has no tables") b, λ f. absurd f)
of_audit last OtherTables = (
  λ b. line_alone (codes "the database has other tables than this program makes") b,
  λ f. absurd f,
)
of_audit last (Sound version tables sums suspects) = (
  λ b. tt,
  λ f. of_sums (number_of version) sums.items last (suspects_text tables suspects.items),
)
of_audit last (Unsound version tables findings) = (λ b. of_findings tables findings.items b, λ f. absurd f)
of_audit last (Unreadable version unread) = (λ b. of_unread unread.items b, λ f. absurd f)
of_audit last (audit.BrokenJournal broken) = (λ b. line_alone (journal_line broken) b, λ f. absurd f)

passing : (last : List ℕ) (a : Audit)
    → BeginsWith (codes "schema ") (text_ending last a) ↔ (FindsSound a × Unit {0})
passing last a = (λ b. ((of_audit last a).0 b, tt), λ holds. (of_audit last a).1 holds.0)

failing : (words : List ℕ) (a : Audit) → BeginsWith (codes "schema ") (audit_line words) ↔ (FindsSound a × ⊥)
failing words a = (λ b. absurd (line_alone words b), λ holds. absurd holds.1)

-- a text begins so just where the audit found a sound institution, and the play of its journal, if there was one, leads
-- there
pub of_verdict : (a : Audit) (played : Option Played)
    → BeginsWith (codes "schema ") (text_played a played) ↔ (FindsSound a × IsPassed played)
of_verdict a None = passing (codes "sound") a
of_verdict a (Some (Leads head)) = passing (leads_line head) a
of_verdict a (Some (NoFounding head)) = passing (unplayed_line head) a
of_verdict a (Some (Stops number why)) = failing (stop_line number why) a
of_verdict a (Some (Differs difference)) = failing (difference_line difference) a
of_verdict a (Some (OtherCopy head)) = failing (other_copy_line head) a
of_verdict a (Some (Lacks gap)) = failing (gap_line gap) a
