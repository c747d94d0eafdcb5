-- Runs of request lines over a store, in the words of the institution that it stands for.
use Rattle.std.specs.Prelude.{◌≡◌, ℕ, Bool, true, false, List, map, Result}
use Rattle.mf_office.specs.declared.caller.Caller.{Caller}
use Rattle.mf_office.specs.Texts.{IsCaller}
use Rattle.mf_office.specs.Written.{caller_text}
use Rattle.mf_base.specs.declared.fault.Fault.{Fault}
use Rattle.mf_model.specs.declared.reply.Reply.{Reply}
use Rattle.mf_model.specs.Institution.{Institution}
use Rattle.mf_model.specs.Sound.{AreInRange}
use Rattle.mf_model.specs.Tree.{view}
use Rattle.mf_model.specs.Run.{Line, answers, last, from_office, from_caller, touching_list, play, play_replies}
use Rattle.mf_model.specs.Run.{given_up, but_given_up}
use Rattle.mf_model.specs.Answering.{all_answered}
use Rattle.mf_model.specs.Store.{left_after}
use Rattle.mf_model.specs.declared.store.InstitutionStore.{Ghosts}
pub use Rattle.mf_desk.specs.Runs.{AnswersLine, Calls}
use Rattle.mf_wire_replies.specs.Shown.{shown_line}
use Rattle.mf_wire_requests.specs.RequestLine.{line_in}
use Rattle.mf_wire_requests.specs.Requests.{call_in}
use Rattle.mf_wire.specs.Senders.{is_sent_by, is_sent_from, texts_for, NoTextIsF20}

-- the texts of the replies to the lines
abbrev pub texts_of : List Line → Institution → List (List ℕ)
texts_of ls i = map shown_line (answers ls i)

-- what office o's callers are told by its touching list, played on its first view
abbrev pub office_play : ℕ → List Line → Institution → List (Result Reply Fault)
office_play o ls i = play_replies (from_office o) (touching_list o ls i) (view o i)

-- what a member of staff is told by the touching list of its office, played on that office's first view
abbrev pub own_play : Caller → List Line → Institution → List (Result Reply Fault)
own_play c ls i = play_replies (from_caller c) (touching_list c.office ls i) (view c.office i)

-- the lines without what is told of them, where their first words are
abbrev pub lines_in : Bool → List (List ℕ) → List (List ℕ)
lines_in false lines = lines
lines_in true lines = map (line_in true) lines

-- a run as it is seen on the wire: the institution that it began with, its lines, the lines' bytes as they were read,
-- without what is told of them, and the texts of their replies
pub record WireRun : Type 0 where
  pub institution : Institution
  pub run : List Line
  pub lines : List (List ℕ)
  pub texts : List (List ℕ)

-- the texts for the lines that office o's callers sent, and for those that one of them sent
abbrev pub texts_of_office : ℕ → WireRun → List (List ℕ)
texts_of_office o r = texts_for (is_sent_from o) r.lines r.texts

-- the texts for the lines that a member of staff sent
abbrev pub texts_of_caller : Caller → WireRun → List (List ℕ)
texts_of_caller c r = texts_for (is_sent_by (caller_text c.office c.staff)) r.lines r.texts

-- An office's view after the run is its touching list played on its first view. The texts for its callers, and for one
-- of them, are what that play answers: F20 stands where a line was given up, and where none of these texts is F20's
-- they are all of it.
pub record IsIsolated (r : WireRun) : Type 0 where
  pub views : (o : ℕ) → view o (last r.run r.institution) ≡ play (touching_list o r.run r.institution)
      (view o r.institution)
  pub office_texts : (o : ℕ) → texts_of_office o r ≡ map shown_line (but_given_up (given_up (from_office o) r.run)
      (office_play o r.run r.institution))
  pub own_texts : (c : Caller) → IsCaller c → texts_of_caller c r
      ≡ map shown_line (but_given_up (given_up (from_caller c) r.run) (own_play c r.run r.institution))
  pub all_office_texts : (o : ℕ) → NoTextIsF20 (texts_of_office o r) → texts_of_office o r
      ≡ map shown_line (office_play o r.run r.institution)
  pub all_own_texts : (c : Caller) → IsCaller c → NoTextIsF20 (texts_of_caller c r) → texts_of_caller c r
      ≡ map shown_line (own_play c r.run r.institution)

module _ {S : Type 0} (store : Ghosts S) (told : Bool) where
  -- These texts are the replies of a run over the lines on the institution, whose first words are told of them or not,
  -- and the store stands for what follows. Each call has its members in range, also that of a line which was given up.
  -- What each office is told is isolated. Where no text is F20's, the run is that of the lines' calls with none given
  -- up.
  pub record RunsOn (i : Institution) (lines : List (List ℕ)) (old : S) (texts : List (List ℕ)) (new : S) : Type 0 where
    pub run : List Line
    pub calls : map (λ l. l.call) run ≡ map (call_in told) lines
    pub in_range : AreInRange run
    pub replied : texts ≡ texts_of run i
    pub follows : store.stands new (last run i)
    pub isolated : IsIsolated (record { institution = i; run = run; lines = lines_in told lines; texts = texts })
    pub with_memory : NoTextIsF20 texts → run ≡ all_answered (map (call_in told) lines)
    pub stop : (is : List Institution) → store.leaves old is → store.leaves new (left_after run i is)

  -- The same of each institution that the store stood for. That the disk returned what was written holds only as long
  -- as it does so to the end.
  pub record RunsLines (old : S) (lines : List (List ℕ)) (texts : List (List ℕ)) (new : S) : Type 0 where
    pub premise : store.clean new → store.clean old
    pub ran : store.clean new → (i : Institution) → store.stands old i → RunsOn i lines old texts new
