-- Whole runs, and what of a run concerns one office.
use Rattle.std.specs.Prelude.{◌≡◌, ℕ, Bool, false, cond, ◌&&◌, ◌||◌, List, [], ◌∷◌, is_some, ◌==◌, Option, Some, None}
use Rattle.std.specs.Prelude.{Result, Ok, Err}
use Rattle.mf_base.specs.declared.fault.Fault.{Fault}
use Rattle.mf_base.specs.declared.fault.Fault.TheVariants.{F20}
use Rattle.mf_office.specs.declared.caller.Caller.{Caller}
use Rattle.mf_model.specs.Calls.{Call, bare}
use Rattle.mf_model.specs.declared.reply.Reply.{Reply}
use Rattle.mf_model.specs.declared.reply.Names.{Names}
use Rattle.mf_model.specs.Names.{names_in, no_names}
use Rattle.mf_model.specs.Institution.{Institution, Change, Noted, after_maybe, after_line}
use Rattle.mf_model.specs.Tree.{view, touches}
use Rattle.mf_model.specs.Desk.{outcome, change_in, reply, effect}

-- a line of a run, which may be given up, out of memory or by a fault of the store
pub record Line : Type 0 where
  pub call : Call
  pub given_up : Bool

-- the change that the line makes, if it is accepted and not given up
abbrev pub change_of_line : Line → Institution → Option Change
change_of_line l i = cond l.given_up None (change_in (outcome l.call i))

-- what a reply names
abbrev pub named_by : Result Reply Fault → Names
named_by (Ok reply) = names_in reply
named_by (Err fault) = no_names

-- what the journal notes of a call
abbrev pub noted_of : Call → Institution → Noted
noted_of call i = record { caller = call.caller; received = call.received; names = named_by (reply call i) }

-- what the line is answered
abbrev pub answer : Line → Institution → Result Reply Fault
answer l i = cond l.given_up (Err F20) (reply l.call i)

-- the institution after the line
abbrev pub next : Line → Institution → Institution
next l i = after_line (noted_of l.call i) (change_of_line l i) i

-- the replies to the lines, in order
abbrev pub answers : List Line → Institution → List (Result Reply Fault)
answers [] i = []
answers (l ∷ ls) i = answer l i ∷ answers ls (next l i)

-- the institution in the end
abbrev pub last : List Line → Institution → Institution
last [] i = i
last (l ∷ ls) i = last ls (next l i)

-- the caller is of this office
abbrev pub is_of : ℕ → Option Caller → Bool
is_of o None = false
is_of o (Some c) = c.office == o

-- the caller is this one
abbrev pub is_by : Caller → Option Caller → Bool
is_by c None = false
is_by c (Some d) = (d.office == c.office) && (d.staff == c.staff)

-- the line names a caller of office o
abbrev pub from_office : ℕ → Call → Bool
from_office o call = is_of o call.caller

-- the line names this caller
abbrev pub from_caller : Caller → Call → Bool
from_caller c call = is_by c call.caller

-- of the replies to the lines, those to the calls that are meant
abbrev pub replies_to : {R : Type 0} → (Call → Bool) → List Line → List R → List R
replies_to meant [] rs = []
replies_to meant (l ∷ ls) [] = []
replies_to meant (l ∷ ls) (r ∷ rs) = cond (meant l.call) (r ∷ replies_to meant ls rs) (replies_to meant ls rs)

-- a change touches what this office sees
abbrev pub is_touched : ℕ → Institution → Option Change → Bool
is_touched o i None = false
is_touched o i (Some change) = touches o i change

-- a request of the touching list, without its text
pub record Touch : Type 0 where
  pub call : Call
  pub accepted : Bool

-- the touching list of office o: the requests of its callers, and the accepted writes whose target it sees
abbrev pub touching_list : ℕ → List Line → Institution → List Touch
touching_list o [] i = []
touching_list o (l ∷ ls) i =
    cond (from_office o l.call || is_touched o i (change_of_line l i))
    (record { call = bare l.call; accepted = is_some (change_of_line l i) } ∷ touching_list o ls (next l i))
    (touching_list o ls (next l i))

-- a view after an entry of the touching list: the change is read off the view
abbrev pub play_one : Touch → Institution → Institution
play_one t v = cond t.accepted (after_maybe (effect t.call v) v) v

-- the view in the end
abbrev pub play : List Touch → Institution → Institution
play [] v = v
play (t ∷ ts) v = play ts (play_one t v)

-- the replies of the view to the calls that are meant
abbrev pub play_replies : (Call → Bool) → List Touch → Institution → List (Result Reply Fault)
play_replies meant [] v = []
play_replies meant (t ∷ ts) v =
    cond (meant t.call) (reply t.call v ∷ play_replies meant ts (play_one t v)) (play_replies meant ts (play_one t v))

-- which of the lines that are meant are given up
abbrev pub given_up : (Call → Bool) → List Line → List Bool
given_up meant [] = []
given_up meant (l ∷ ls) = cond (meant l.call) (l.given_up ∷ given_up meant ls) (given_up meant ls)

-- the replies, with F20 in the place of those given up
abbrev pub but_given_up : List Bool → List (Result Reply Fault) → List (Result Reply Fault)
but_given_up [] rs = rs
but_given_up (g ∷ gs) [] = []
but_given_up (g ∷ gs) (r ∷ rs) = cond g (Err F20) r ∷ but_given_up gs rs

-- no line is given up
abbrev pub NoneGivenUp : List Line → Type 0
NoneGivenUp [] = Unit {0}
NoneGivenUp (l ∷ ls) = (l.given_up ≡ false) × NoneGivenUp ls

-- an office's view after the run is its touching list, played on its first view
abbrev pub ViewIsPlay : Institution → List Line → Type 0
ViewIsPlay i ls = (o : ℕ) → view o (last ls i) ≡ play (touching_list o ls i) (view o i)

-- what an office's callers are told is what that play answers them, but where a line is given up
abbrev pub RepliesArePlay : Institution → List Line → Type 0
RepliesArePlay i ls = (o : ℕ) →
    replies_to (from_office o) ls (answers ls i) ≡ but_given_up (given_up (from_office o) ls)
    (play_replies (from_office o) (touching_list o ls i) (view o i))

-- the same of one member of staff
abbrev pub OwnRepliesArePlay : Institution → List Line → Type 0
OwnRepliesArePlay i ls = (c : Caller) →
    replies_to (from_caller c) ls (answers ls i) ≡ but_given_up (given_up (from_caller c) ls)
    (play_replies (from_caller c) (touching_list c.office ls i) (view c.office i))

-- two runs that begin with the same view of office o and touch it alike
pub record Alike (o : ℕ) (i j : Institution) (ls ks : List Line) : Type 0 where
  pub view_is : view o i ≡ view o j
  pub touching_is : touching_list o ls i ≡ touching_list o ks j
