-- What a journal tells of an office and of a loan, and what an office sees of the journal.
use Rattle.std.specs.Prelude.{ℕ, Bool, cond, ◌&&◌, ◌==◌, List, map, filter, Option, Some, None, option_map}
use Rattle.std.specs.List.{enumerate_from}
use Rattle.mf_office.specs.Tree.{is_at_or_below}
use Rattle.mf_model.specs.Institution.{Institution, JournalLine}
use Rattle.mf_model.specs.Tree.{parent_of, view}
use Rattle.mf_lists.specs.declared.lines.ChangeLine.{ChangeLine}
use Rattle.mf_lists.specs.Lists.{page}

-- ---- what is told

-- the lines that name an office
abbrev pub lines_of_office : ℕ → List JournalLine → List JournalLine
lines_of_office office lines = filter (λ (l : JournalLine). l.named_office == office) lines

-- the lines that name a loan of an office
abbrev pub lines_of_loan : ℕ → ℕ → List JournalLine → List JournalLine
lines_of_loan office loan lines =
    filter (λ (l : JournalLine). (l.named_office == office) && (l.named_loan == loan)) lines

-- the loan that a line names, where it names one
abbrev pub loan_named : ℕ → Option ℕ
loan_named loan = cond (loan == 0) None (Some loan)

-- a line as it is told, with its place
abbrev pub change_line : ℕ × JournalLine → ChangeLine
change_line l = record {
  number = l.0;
  day = l.1.day;
  caller = record { office = l.1.office; staff = l.1.staff };
  loan = loan_named l.1.named_loan;
  told = l.1.told;
  method = l.1.method;
  path = l.1.path;
  body = l.1.body;
}

-- lines as they are told, with their places from 1
abbrev pub change_lines : List JournalLine → List ChangeLine
change_lines lines = map change_line (enumerate_from 1 lines)

-- what is told of a loan
abbrev pub changes_of_loan : ℕ → ℕ → List JournalLine → List ChangeLine
changes_of_loan office loan lines = change_lines (lines_of_loan office loan lines)

-- the first 200 changes of an office with a place above this one
abbrev pub changes_after : ℕ → ℕ → List JournalLine → List ChangeLine
changes_after office after lines =
    page (λ (c : ChangeLine). c.number) 200 after (change_lines (lines_of_office office lines))

-- ---- what is seen

-- a line names an office at or below o
abbrev pub is_line_seen : ℕ → Institution → JournalLine → Bool
is_line_seen o i l = is_at_or_below (parent_of i.offices) l.named_office o

-- of some lines, those that name an office at or below o
abbrev pub lines_seen_in : ℕ → Institution → Option (List JournalLine) → Option (List JournalLine)
lines_seen_in o i journal = option_map (filter (is_line_seen o i)) journal

-- what o sees, with the lines of the journal that name an office at or below it
abbrev pub view_with_lines : ℕ → Institution → Institution
view_with_lines o i = record (view o i) { journal = lines_seen_in o i i.journal }
