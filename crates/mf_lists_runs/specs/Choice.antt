-- What is replied to a request where lists may be asked for, or where they may not.
use Rattle.std.proofs.Common.{inl, inr}
use Rattle.std.specs.Prelude.{◌≡◌, ◌⊎◌, ℕ, Bool, true, false, ◌&&◌, not, cond, is_some, List, [], ◌∷◌, map, take}
use Rattle.std.specs.Prelude.{Option, Some, None, Result, Ok, Err}
use Rattle.mf_base.specs.declared.fault.Fault.{Fault}
use Rattle.mf_base.specs.declared.fault.Fault.TheVariants.{F2}
use Rattle.mf_office.specs.declared.caller.Caller.{Caller}
use Rattle.mf_lists.specs.declared.answer.ListAnswer.{ListAnswer}
use Rattle.mf_lists.specs.declared.request.ListRequest.{ListRequest}
use Rattle.mf_lists.specs.Changes.{lines_seen_in, view_with_lines}
use Rattle.mf_lists.specs.Readings.{list_reply}
use Rattle.mf_journal.specs.Journal.{line_of_write, with_lines, writes_of}
use Rattle.mf_lists_replies.specs.Shown.{list_body, shown_list}
use Rattle.mf_lists_wire.specs.ListRequests.{list_request_of}
use Rattle.mf_lists_wire.specs.Paths.{behind_lists}
use Rattle.mf_model.specs.Calls.{Call, Received}
use Rattle.mf_model.specs.declared.reply.Reply.{Reply}
use Rattle.mf_model.specs.declared.request.Flaw.TheVariants.{NoRoute}
use Rattle.mf_model.specs.declared.request.Request.{Request}
use Rattle.mf_model.specs.declared.request.Request.TheVariants.{Unreadable}
use Rattle.mf_model.specs.Institution.{Institution, JournalLine}
use Rattle.mf_model.specs.Run.{Line, answer, next, last, from_office, from_caller, replies_to, touching_list, play}
use Rattle.mf_model.specs.Tree.{view}
use Rattle.mf_wire_lines.specs.Replies.{fault_status, fault_body}
use Rattle.mf_wire_messages.specs.Responses.{response}
use Rattle.mf_wire_replies.specs.Shown.{shown_line}
use Rattle.mf_wire_requests.specs.Routes.{route_at}
use Rattle.mf_wire.specs.Serving.{shown_response}

-- how names are folded where lists may be asked for; None where they may not
abbrev pub Choice : Type 0
Choice = Option (List ℕ → List ℕ)

-- the choice, by the folding and by whether lists may be asked for
abbrev pub choice_if : (List ℕ → List ℕ) → Bool → Choice
choice_if folded listed = cond listed (Some folded) None

-- what is replied: by the desk, or by the lists
abbrev pub Told : Type 0
Told = Result Reply Fault ⊎ Result ListAnswer Fault

-- the request has no route of the desk
abbrev pub is_no_route : Request → Bool
is_no_route (Unreadable NoRoute) = true
is_no_route request = false

-- the path begins with /lists/, and the desk has no route for it
abbrev pub is_listed_path : List ℕ → Bool
is_listed_path path = not (is_some (route_at path)) && is_some (behind_lists path)

-- somebody asks the lists: the desk has no route for the request, and its path begins with /lists/
abbrev pub asks_list : Call → Bool
asks_list call = (is_some call.caller && is_no_route call.request) && is_listed_path call.received.path

-- what somebody is told who asks the lists; a request that can't be read is refused first
abbrev pub list_told : (List ℕ → List ℕ) → Caller → Result ListRequest Fault → Institution → Result ListAnswer Fault
list_told folded c (Err fault) i = Err fault
list_told folded c (Ok request) i = list_reply folded c request i

-- the same by who sends it, if anybody does; F2 to nobody
abbrev pub list_told_to : (List ℕ → List ℕ) → Option Caller → Result ListRequest Fault → Institution
    → Result ListAnswer Fault
list_told_to folded None asked i = Err F2
list_told_to folded (Some c) asked i = list_told folded c asked i

-- what a text asks of the lists
abbrev pub list_asked : Received → Result ListRequest Fault
list_asked received = list_request_of received.method received.path received.body

-- the list in the place of the desk's reply, where the line is answered by one
abbrev pub with_list : Choice → Line → Institution → Result Reply Fault → Told
with_list None l i r = inl r
with_list (Some folded) l i r =
    cond (not l.given_up && asks_list l.call) (inr (list_told_to folded l.call.caller (list_asked l.call.received) i))
    (inl r)

-- what a line is answered
abbrev pub told_of : Choice → Line → Institution → Told
told_of choice l i = with_list choice l i (answer l i)

-- what the lines are answered, in order
abbrev pub all_told : Choice → List Line → Institution → List Told
all_told choice [] i = []
all_told choice (l ∷ ls) i = told_of choice l i ∷ all_told choice ls (next l i)

-- What office o sees, the lines of the journal that name it too, before each of the lines that are meant, answers to
-- them.
abbrev pub told_by_views : Choice → (Call → Bool) → ℕ → List Line → Institution → List Told
told_by_views choice meant o [] i = []
told_by_views choice meant o (l ∷ ls) i =
    cond (meant l.call) (told_of choice l (view_with_lines o i) ∷ told_by_views choice meant o ls (next l i))
    (told_by_views choice meant o ls (next l i))

-- the lines of the journal that name what office o sees, with those that a run adds
abbrev pub lines_seen_after : ℕ → List Line → Institution → Option (List JournalLine)
lines_seen_after o run i =
    lines_seen_in o (last run i) (with_lines (map line_of_write (writes_of run i)) i.journal)

-- What each office sees before each line is its touching list so far, played on its first view; of the journal it sees
-- the lines that name what it sees, those of before and one for each accepted request. What its callers are told, and
-- one of them, is what these views answer, lists too; F20 stands where a line was given up.
pub record IsReadByViews (choice : Choice) (i : Institution) (run : List Line) : Type 0 where
  pub views : (o n : ℕ) → view o (last (take n run) i) ≡ play (touching_list o (take n run) i) (view o i)
  pub lines : (o n : ℕ) → (view_with_lines o (last (take n run) i)).journal ≡ lines_seen_after o (take n run) i
  pub office : (o : ℕ) → replies_to (from_office o) run (all_told choice run i)
      ≡ told_by_views choice (from_office o) o run i
  pub own : (c : Caller) → replies_to (from_caller c) run (all_told choice run i)
      ≡ told_by_views choice (from_caller c) c.office run i

-- the line of what is told
abbrev pub told_line : Told → List ℕ
told_line (inl r) = shown_line r
told_line (inr r) = shown_list r

-- the response of a list
abbrev pub list_response : Bool → Result ListAnswer Fault → List ℕ
list_response to_head (Ok answer) = response 200 (list_body answer) to_head
list_response to_head (Err fault) = response (fault_status fault) (fault_body fault) to_head

-- the response of what is told
abbrev pub told_response : Bool → Told → List ℕ
told_response to_head (inl r) = shown_response to_head r
told_response to_head (inr r) = list_response to_head r
