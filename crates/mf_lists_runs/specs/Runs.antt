-- Runs of request lines where lists may be asked for, or where they may not.
use Rattle.std.specs.Prelude.{◌≡◌, ℕ, Bool, List, map}
use Rattle.mf_office.specs.declared.caller.Caller.{Caller}
use Rattle.mf_office.specs.Texts.{IsCaller}
use Rattle.mf_office.specs.Written.{caller_text}
use Rattle.mf_desk.specs.Runs.{AnswersLine}
use Rattle.mf_model.specs.Answering.{all_answered}
use Rattle.mf_model.specs.Calls.{Call}
use Rattle.mf_model.specs.Institution.{Institution}
use Rattle.mf_model.specs.Run.{Line, from_office, from_caller}
use Rattle.mf_model.specs.declared.store.InstitutionStore.{Ghosts}
use Rattle.mf_wire_requests.specs.Requests.{call_in}
use Rattle.mf_wire.specs.Runs.{RunsOn, lines_in}
use Rattle.mf_wire.specs.Senders.{is_sent_by, is_sent_from, texts_for, NoTextIsF20}
use Rattle.mf_lists_runs.specs.Choice.{Choice, Told, with_list, all_told, told_by_views, told_line}
use Rattle.mf_lists_runs.specs.Choice.{IsReadByViews}

-- The texts for an office's callers, and for one of them, are those of what the office's views answer.
pub record AreTextsByViews (choice : Choice) (i : Institution) (run : List Line) (lines texts : List (List ℕ)) : Type
    0 where
  pub office_texts : (o : ℕ) → texts_for (is_sent_from o) lines texts
      ≡ map told_line (told_by_views choice (from_office o) o run i)
  pub own_texts : (c : Caller) → IsCaller c → texts_for (is_sent_by (caller_text c.office c.staff)) lines texts
      ≡ map told_line (told_by_views choice (from_caller c) c.office run i)

module _ {S : Type 0} (store : Ghosts S) (choice : Choice) where
  -- A call was answered as a line of a run, by the desk or by the lists, and the store stands for what follows. Whether
  -- it was given up is known afterwards. A list changes nothing.
  pub record CallsWith (told : Told → Type 0) (call : Call) (old new : S) : Type 0 where
    pub premise : store.clean new → store.clean old
    pub answered : store.clean new → (i : Institution) → store.stands old i → (given_up : Bool)
        × AnswersLine store (λ r. told (with_list choice (record { call = call; given_up = given_up }) i r))
        (record { call = call; given_up = given_up }) i old new

  -- The lines were answered by a run. Without the lists it is that of `mf_wire`, with other texts where a list was
  -- asked for: what these other texts are, what it makes of the institution, what is isolated and what a stop leaves is
  -- told there. With them each text is what its line is told. Where no text is F20's, no line was given up.
  pub record ListsRunsOn (told : Bool) (i : Institution) (lines : List (List ℕ)) (old : S) (texts : List (List ℕ))
      (new : S) : Type 0 where
    pub without : List (List ℕ)
    pub ran : RunsOn store told i lines old without new
    pub replied : texts ≡ map told_line (all_told choice ran.run i)
    pub by_views : IsReadByViews choice i ran.run
    pub texts_by_views : AreTextsByViews choice i ran.run (lines_in told lines) texts
    pub with_memory : NoTextIsF20 texts → ran.run ≡ all_answered (map (call_in told) lines)

  -- the same of each institution that the store stood for
  pub record ListsRuns (told : Bool) (old : S) (lines : List (List ℕ)) (texts : List (List ℕ)) (new : S) : Type 0 where
    pub premise : store.clean new → store.clean old
    pub ran : store.clean new → (i : Institution) → store.stands old i → ListsRunsOn told i lines old texts new
