-- What a run notes tells requests.
use Rattle.std.proofs.Common.{◌≡◌, inl, inr, Bool, true, false, cond, List, [], ◌∷◌, ◌++◌, Option, Some, None}
use Rattle.std.proofs.Common.{refl, sym, subst}
use Rattle.mf_model.specs.Institution.{Institution, Change, JournalLine, after_line, noted_line, with_line}
use Rattle.mf_model.specs.Desk.{outcome, change_in}
use Rattle.mf_model.specs.Run.{Line, change_of_line, last, next, noted_of}
use Rattle.mf_play.specs.Play.{AreAsReceived, IsAsReceived, TellsRequest}
use Rattle.mf_play.proofs.TellingLemmas.{noted_tells}
use Rattle.mf_store_told.specs.Told.{TellsRequests}
use Rattle.mf_store_told.proofs.ToldLemmas.{told_both}
use Rattle.mf_store_files.specs.Stops.{IsLeftBy}

told_line : (l : JournalLine) (journal : Option (List JournalLine)) → TellsRequest l → TellsRequests journal
    → TellsRequests (with_line l journal)
told_line l None one told = told
told_line l (Some lines) one told = told_both lines (l ∷ []) told (one, tt)

told_step : (l : Line) (i : Institution) (c : Option Change) → change_of_line l i ≡ c → IsAsReceived l.call
    → TellsRequests i.journal → TellsRequests (after_line (noted_of l.call i) c i).journal
told_step l i None e is told = told
told_step l i (Some change) e is told =
    told_line (noted_line i.catalogue.day (noted_of l.call i)) i.journal
    (noted_tells l.call i change is (made l.given_up (change_in (outcome l.call i)) e)) told
  where
    made : (given_up : Bool) (c : Option Change) → cond given_up None c ≡ Some change → c ≡ Some change
    made true c e = absurd (cc)
    made false c e = e

told_run : (run : List Line) (i : Institution) → AreAsReceived run → TellsRequests i.journal
    → TellsRequests (last run i).journal
told_run [] i are told = told
told_run (l ∷ ls) i are told =
    told_run ls (next l i) are.1 (told_step l i (change_of_line l i) refl are.0 told)

received_first : (before later : List Line) → AreAsReceived (before ++ later) → AreAsReceived before
received_first [] later are = tt
received_first (l ∷ ls) later are = (are.0, received_first ls later are.1)

received_rest : (before later : List Line) → AreAsReceived (before ++ later) → AreAsReceived later
received_rest [] later are = are
received_rest (l ∷ ls) later are = received_rest ls later are.1

pub told_left : (run : List Line) (i j : Institution) → AreAsReceived run → TellsRequests i.journal
    → IsLeftBy run i j → TellsRequests j.journal
told_left run i j are told (inl is_last) =
    subst (λ (k : Institution). TellsRequests k.journal) (sym is_last) (told_run run i are told)
told_left run i j are told (inr it) =
    let parts = subst AreAsReceived it.parts are in
    let before = last it.before i in
    let first = told_run it.before i (received_first it.before (it.line ∷ it.later) parts) told in
    let one = noted_tells it.line.call before it.change (received_rest it.before (it.line ∷ it.later) parts).0
    it.asked in
    subst (λ (k : Institution). TellsRequests k.journal) (sym it.with_change)
    (told_line (noted_line before.catalogue.day (noted_of it.line.call before)) before.journal one first)
