-- What a whole run does to the entries of a loan.
use Rattle.std.proofs.Common.{◌≡◌, ℕ, ◌-◌, ◌<◌, true, List, [], ◌∷◌, ◌++◌, length, set, Option, Some, None, sym, ap}
use Rattle.std.proofs.Common.{ap₂, ◌∙◌, append_assoc, append-nil}
use Rattle.std.proofs.lemmas.List.{set-append_left, get_or_append_left}
use Rattle.mf_office.specs.declared.account.Account.{Account}
use Rattle.mf_account.specs.declared.entry.Entry.{Entry}
use Rattle.mf_account.specs.Standing.{no_entry, entry_at, with_mark}
use Rattle.mf_model.specs.Institution.{Institution, Ledger}
use Rattle.mf_model.specs.Run.{Line, next, last}
use Rattle.mf_model.specs.Store.{ledger_at}
use Rattle.mf_histories.specs.Histories.{Deed, Adds, Marks, deed_by, with_deed, deeds, added_by, reversed, with_marks}
use Rattle.mf_histories.specs.Histories.{entries_of_ledger, entries_of_loan}
use Rattle.mf_histories.proofs.OneRequest.{IsDone}
use Rattle.mf_histories.proofs.OneLine.{line_done}

-- a mark on an entry that is there, and entries that are added later
marked_first : (xs ys : List Entry) (n : ℕ) → n < length xs → with_mark xs n true ++ ys ≡ with_mark (xs ++ ys) n true
marked_first xs ys n within =
    sym (set-append_left xs ys n (record (entry_at xs n) { reversed = true }) within)
    ∙ ap (λ (e : Entry). set (xs ++ ys) n (record e { reversed = true }))
    (sym (get_or_append_left xs ys no_entry n within))

pub entries_after : (a : Account) (run : List Line) (i : Institution) → entries_of_loan a (last run i)
    ≡ with_marks (reversed (deeds a run i)) (entries_of_loan a i ++ added_by (deeds a run i))
entries_after a [] i = sym (append-nil (entries_of_loan a i))
entries_after a (l ∷ ls) i = step (deed_by a l i) (line_done a i l) (entries_after a ls (next l i))
  where
    later : List Deed
    later = deeds a ls (next l i)

    from : List Entry → List Entry
    from es = with_marks (reversed later) (es ++ added_by later)

    step : (d : Option Deed) → IsDone d (entries_of_loan a i) (entries_of_loan a (next l i))
        → entries_of_loan a (last ls (next l i))
        ≡ from (entries_of_loan a (next l i))
        → entries_of_loan a (last ls (next l i)) ≡ with_marks (reversed (with_deed d later)) (entries_of_loan a i
        ++ added_by (with_deed d later))
    step None is rest = rest ∙ ap from is
    step (Some (Adds e)) is rest =
        rest ∙ ap from is ∙ ap (with_marks (reversed later))
        (append_assoc (entries_of_loan a i) (e ∷ []) (added_by later))
    step (Some (Marks seq)) is rest = rest ∙ ap from is.1 ∙ ap (with_marks (reversed later))
        (marked_first (entries_of_loan a i) (added_by later) (seq - 1) is.0)

-- a ledger that is there has these entries
pub ledger_after : (a : Account) (run : List Line) (i : Institution) (l : Ledger) → ledger_at a (last run i) ≡ Some l
    → l ≡ record l { entries = with_marks (reversed (deeds a run i)) (entries_of_loan a i ++ added_by (deeds a run i)) }
ledger_after a run i l there = ap (λ (es : List Entry). record l { entries = es }) (sym (ap entries_of_ledger there)
    ∙ entries_after a run i)

pub alike_after : (a : Account) (run other : List Line) (i j : Institution) → entries_of_loan a i ≡ entries_of_loan a j
    → deeds a run i ≡ deeds a other j → entries_of_loan a (last run i) ≡ entries_of_loan a (last other j)
alike_after a run other i j same did =
    entries_after a run i ∙ ap₂ (λ (ds : List Deed) (es : List Entry). with_marks (reversed ds) (es ++ added_by ds)) did
    same ∙ sym (entries_after a other j)
