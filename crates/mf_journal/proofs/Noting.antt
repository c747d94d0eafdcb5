-- What a run notes, and that nothing is answered by the journal.
use Rattle.std.proofs.Common.{◌≡◌, true, false, cond, List, [], ◌∷◌, ◌++◌, map, append-nil, append_assoc, Option, Some}
use Rattle.std.proofs.Common.{None, Result, Ok, Err, refl, sym, ap, ◌∙◌}
use Rattle.std.specs.Prelude.{Bool, is_some, option_map}
use Rattle.mf_base.specs.declared.fault.Fault.{Fault}
use Rattle.mf_base.specs.declared.fault.Fault.TheVariants.{F3, F20}
use Rattle.mf_office.specs.declared.caller.Caller.{Caller}
use Rattle.mf_model.specs.Calls.{Call}
use Rattle.mf_model.specs.declared.request.Request.{Request}
use Rattle.mf_model.specs.Desk.{Plan, On_catalogue, On_office, On_all_seen, On_new_office, plan, need, meets}
use Rattle.mf_model.specs.Desk.{carried_out, where_permitted, sent_by, staff_at, outcome, change_in, reply_in}
use Rattle.mf_model.specs.Institution.{Institution, Staff, JournalLine, Noted, Change, Catalogue_becomes, Rows_become}
use Rattle.mf_model.specs.Institution.{Office_added, after_noted, after_line, noted_line}
use Rattle.mf_model.specs.Run.{Line, change_of_line, named_by, noted_of, answer, next, answers, last}
use Rattle.mf_journal.specs.Journal.{AcceptedWrite, write_of, writes_of, line_of_write, with_lines, with_other_journal}

-- no line more
none_more : (journal : Option (List JournalLine)) → journal ≡ with_lines [] journal
none_more None = refl
none_more (Some lines) = ap Some (sym (append-nil lines))

-- one line and others
one_more : (line : JournalLine) (more : List JournalLine) (journal : Option (List JournalLine))
    → with_lines more (option_map (λ lines. lines ++ line ∷ []) journal) ≡ with_lines (line ∷ more) journal
one_more line more None = refl
one_more line more (Some lines) = ap Some (append_assoc lines (line ∷ []) more)

-- a line that changes something is not given up, so it is noted with its reply
noted_is : (l : Line) (i : Institution) (change : Change) → change_of_line l i ≡ Some change
    → noted_line i.catalogue.day (noted_of l.call i) ≡ line_of_write (write_of l i)
noted_is l i change e = by l.given_up refl
  where
    by : (g : Bool) → l.given_up ≡ g
        → noted_line i.catalogue.day (noted_of l.call i) ≡ line_of_write (write_of l i)
    by false same =
        ap (λ g. line_of_write (write_of (record { call = l.call; given_up = g }) i)) (sym same)
    by true same = absurd (none≢some (sym (ap (λ g. cond g None (change_in (outcome l.call i))) same) ∙ e))
      where
        none≢some : None ≡ Some change → ⊥
        none≢some h = cc

-- the journal after a run has its accepted writes more
pub notes : (run : List Line) (i : Institution)
    → (last run i).journal ≡ with_lines (map line_of_write (writes_of run i)) i.journal
notes [] i = none_more i.journal
notes (l ∷ ls) i = step (change_of_line l i) refl (notes ls (next l i))
  where
    more : List JournalLine
    more = map line_of_write (writes_of ls (next l i))

    step : (c : Option Change) → change_of_line l i ≡ c
        → (last ls (next l i)).journal ≡ with_lines more (next l i).journal
        → (last ls (next l i)).journal ≡ with_lines (map line_of_write (writes_of (l ∷ ls) i)) i.journal
    step None e rest =
        rest
        ∙ ap (λ (j : Institution). with_lines more j.journal) (ap (λ c. after_line (noted_of l.call i) c i) e)
        ∙ ap (λ c. with_lines (map line_of_write (cond (is_some c) (write_of l i ∷ writes_of ls (next l i))
        (writes_of ls (next l i)))) i.journal) (sym e)
    step (Some change) e rest =
        rest
        ∙ ap (λ (j : Institution). with_lines more j.journal) (ap (λ c. after_line (noted_of l.call i) c i) e)
        ∙ one_more (noted_line i.catalogue.day (noted_of l.call i)) more i.journal
        ∙ ap (λ line. with_lines (line ∷ more) i.journal) (noted_is l i change e)
        ∙ ap (λ c. with_lines (map line_of_write (cond (is_some c) (write_of l i ∷ writes_of ls (next l i))
        (writes_of ls (next l i)))) i.journal) (sym e)

-- a change of an institution with another journal
changed : (noted : Noted) (change : Change) (journal : Option (List JournalLine)) (i : Institution)
    → (other : Option (List JournalLine))
    × (after_noted noted change (with_other_journal journal i) ≡ with_other_journal other (after_noted noted change i))
changed noted (Catalogue_becomes catalogue) journal i = (_, refl)
changed noted (Rows_become x rows) journal i = (_, refl)
changed noted (Office_added number parent name) journal i = (_, refl)

-- what a request comes to doesn't depend on the journal
module _ (journal : Option (List JournalLine)) (i : Institution) where
  carried_with : (c : Caller) (p : Plan) → carried_out c p (with_other_journal journal i) ≡ carried_out c p i
  carried_with c (On_catalogue act) = refl
  carried_with c (On_office x act) = refl
  carried_with c (On_all_seen read) = refl
  carried_with c (On_new_office number parent name) = refl

  permitted_with : (c : Caller) (request : Request) (p : Plan) (staff : Option Staff)
      → where_permitted c request p staff (with_other_journal journal i) ≡ where_permitted c request p staff i
  permitted_with c request p None = refl
  permitted_with c request p (Some s) =
      ap (λ o. cond (meets (need request) s.role c.office) o (Err F3)) (carried_with c p)

  sent_with : (caller : Option Caller) (request : Request) (p : Result Plan Fault)
      → sent_by caller request p (with_other_journal journal i) ≡ sent_by caller request p i
  sent_with caller request (Err fault) = refl
  sent_with None request (Ok p) = refl
  sent_with (Some c) request (Ok p) = permitted_with c request p (staff_at i c)

  outcome_with : (call : Call) → outcome call (with_other_journal journal i) ≡ outcome call i
  outcome_with call = sent_with call.caller call.request (plan call.request)

  next_with : (l : Line) → (other : Option (List JournalLine))
      × (next l (with_other_journal journal i) ≡ with_other_journal other (next l i))
  next_with l =
      let made = step (cond l.given_up None (change_in (outcome l.call i))) in (
        made.0,
        ap (λ o. after_line (record {
          caller = l.call.caller;
          received = l.call.received;
          names = named_by (reply_in o);
        }) (cond l.given_up None (change_in o)) (with_other_journal journal i))
            (outcome_with l.call) ∙ made.1,
      )
    where
      step : (c : Option Change) → (other : Option (List JournalLine))
          × (after_line (noted_of l.call i) c (with_other_journal journal i)
          ≡ with_other_journal other (after_line (noted_of l.call i) c i))
      step None = (journal, refl)
      step (Some change) = changed (noted_of l.call i) change journal i

  answer_with : (l : Line) → answer l (with_other_journal journal i) ≡ answer l i
  answer_with l = ap (λ o. cond l.given_up (Err F20) (reply_in o)) (outcome_with l.call)

-- what is answered doesn't depend on the journal
pub unread : (run : List Line) (journal : Option (List JournalLine)) (i : Institution)
    → answers run (with_other_journal journal i) ≡ answers run i
unread [] journal i = refl
unread (l ∷ ls) journal i =
    let w = next_with journal i l in
    ap (λ r. r ∷ answers ls (next l (with_other_journal journal i))) (answer_with journal i l)
    ∙ ap (λ rs. answer l i ∷ rs) (ap (answers ls) w.1 ∙ unread ls w.0 (next l i))

-- nor do the institution's rows
pub last_with : (run : List Line) (journal : Option (List JournalLine)) (i : Institution)
    → (other : Option (List JournalLine))
    × (last run (with_other_journal journal i) ≡ with_other_journal other (last run i))
last_with [] journal i = (journal, refl)
last_with (l ∷ ls) journal i =
    let w = next_with journal i l in
    let more = last_with ls w.0 (next l i) in
    (more.0, ap (last ls) w.1 ∙ more.1)
