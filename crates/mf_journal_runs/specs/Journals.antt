-- What runs make of an institution and its journal.
use Rattle.std.specs.Prelude.{◌≡◌, ℕ, List, [], Some, map}
use Rattle.std.specs.List.{AllByRecursion}
use Rattle.mf_model.specs.Institution.{Institution, JournalLine, newly_made}
use Rattle.mf_model.specs.Run.{Line}
use Rattle.mf_model.specs.declared.request.Request.{Request}
use Rattle.mf_journal.specs.Journal.{writes_of, line_of_write, with_lines, with_other_journal}
use Rattle.mf_play.specs.Play.{asked_by_text, text_told, PlaysTo}

-- one line for each accepted request of a run that changed something, in order: its business day, who sent it, its
-- text, and the office and the loan that its reply names
abbrev pub lines_of_run : List Line → Institution → List JournalLine
lines_of_run run i = map line_of_write (writes_of run i)

-- the text that a line tells reads as a request
abbrev pub ReadsAsRequest : JournalLine → Type 0
ReadsAsRequest l = (request : Request) × (asked_by_text (text_told l) ≡ Some request)

-- each of these lines does
abbrev pub AllRead : List JournalLine → Type 0
AllRead lines = AllByRecursion ReadsAsRequest lines

-- An institution became another by lines: its journal has just these more, they play from the one to the other, and
-- each reads as a request.
pub record GrewBy (lines : List JournalLine) (i j : Institution) : Type 0 where
  pub journal : j.journal ≡ with_lines lines i.journal
  pub plays : PlaysTo i lines j
  pub read : AllRead lines

-- the institution is the play of its journal from a first one, and each line of this journal reads as a request
pub record IsPlayOfItsJournal (first i : Institution) : Type 0 where
  pub lines : List JournalLine
  pub journal : i.journal ≡ Some lines
  pub plays : PlaysTo first lines i
  pub read : AllRead lines

-- the institution that is founded on a day, with a journal that has no line yet
abbrev pub founded : ℕ → Institution
founded day = with_other_journal (Some []) (newly_made day)
