-- What a run makes of an institution, and journals one after another.
use Rattle.std.proofs.Common.{◌≡◌, List, [], ◌∷◌, ◌++◌, append_assoc, append-nil, Option, Some, None, refl, sym, ap}
use Rattle.std.proofs.Common.{◌∙◌, subst}
use Rattle.std.specs.Prelude.{option_map, option_and_then}
use Rattle.mf_office.specs.declared.caller.Caller.{Caller}
use Rattle.mf_model.specs.Calls.{Call}
use Rattle.mf_model.specs.Institution.{Institution, JournalLine}
use Rattle.mf_model.specs.Run.{Line, last}
use Rattle.mf_model.specs.Unseen.{call_from}
use Rattle.mf_model.specs.declared.request.Request.{Request}
use Rattle.mf_journal.specs.Journal.{with_lines}
use Rattle.mf_journal.proofs.Noting.{notes}
use Rattle.mf_play.specs.Play.{asked_by_text, text_told, caller_told, call_told, PlaysTo, AreAsReceived}
use Rattle.mf_play.proofs.Lines.{joined, one_play}
use Rattle.mf_play.proofs.Runs.{run_plays}
use Rattle.mf_journal_runs.specs.Journals.{lines_of_run, ReadsAsRequest, AllRead, GrewBy, IsPlayOfItsJournal}

-- a line that tells a call reads as a request
line_reads : (l : JournalLine) (call : Call) → call_told l ≡ Some call → ReadsAsRequest l
line_reads l call e = by (caller_told l) (asked_by_text (text_told l)) refl e
  where
    by : (c : Option Caller) (o : Option Request) → asked_by_text (text_told l) ≡ o
        → option_and_then (λ x. option_map (λ r. call_from x r (text_told l)) o) c ≡ Some call → ReadsAsRequest l
    by None o asked h = absurd (cc)
    by (Some c) None asked h = absurd (cc)
    by (Some c) (Some request) asked h = (request, asked)

-- so each line that plays does
pub plays_read : (i j : Institution) (lines : List JournalLine) → PlaysTo i lines j → AllRead lines
plays_read i j [] p = tt
plays_read i j (l ∷ lines) p = (line_reads l p.1.call p.1.told, plays_read p.0 j lines p.2)

-- a run whose calls are what their texts ask
pub run_grows : (run : List Line) (i : Institution) → AreAsReceived run → GrewBy (lines_of_run run i) i (last run i)
run_grows run i are =
    let plays = run_plays run i are in
    record { journal = notes run i; plays = plays; read = plays_read i (last run i) (lines_of_run run i) plays }

-- nothing was done
no_lines : (journal : Option (List JournalLine)) → journal ≡ with_lines [] journal
no_lines None = refl
no_lines (Some lines) = ap Some (sym (append-nil lines))

pub grew_nothing : (i : Institution) → GrewBy [] i i
grew_nothing i = record { journal = no_lines i.journal; plays = refl; read = tt }

-- one thing and then another
lines_twice : (lines more : List JournalLine) (journal : Option (List JournalLine))
    → with_lines more (with_lines lines journal) ≡ with_lines (lines ++ more) journal
lines_twice lines more None = refl
lines_twice lines more (Some before) = ap Some (append_assoc before lines more)

pub grew_on : (lines more : List JournalLine) (i j k : Institution) → GrewBy lines i j → GrewBy more j k
    → GrewBy (lines ++ more) i k
grew_on lines more i j k one other =
    let plays = joined i j k lines more one.plays other.plays in record {
      journal = other.journal ∙ ap (with_lines more) one.journal ∙ lines_twice lines more i.journal;
      plays = plays;
      read = plays_read i k (lines ++ more) plays;
    }

-- what was the play of its journal still is
pub still_plays : (first i j : Institution) (lines : List JournalLine) → IsPlayOfItsJournal first i
    → GrewBy lines i j → IsPlayOfItsJournal first j
still_plays first i j lines was grew =
    let plays = joined first i j was.lines lines was.plays grew.plays in record {
      lines = was.lines ++ lines;
      journal = grew.journal ∙ ap (with_lines lines) was.journal;
      plays = plays;
      read = plays_read first j (was.lines ++ lines) plays;
    }

-- one journal is played to one institution
pub one_institution : (first i j : Institution) → IsPlayOfItsJournal first i → IsPlayOfItsJournal first j
    → i.journal ≡ j.journal → i ≡ j
one_institution first i j a b e =
    let whole : Some a.lines ≡ Some b.lines = sym a.journal ∙ e ∙ b.journal in
    let same : a.lines ≡ b.lines = cc in
    one_play first i j b.lines (subst (λ lines. PlaysTo first lines i) same a.plays) b.plays
