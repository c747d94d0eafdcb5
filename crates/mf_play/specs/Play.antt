-- The play of a journal: its lines, answered again one after the other.
use Rattle.std.specs.Prelude.{◌≡◌, ◌≢◌, ℕ, ◌&&◌, cond, List, [], ◌∷◌, take, slice_get, Option, Some, None, Ok, Err}
use Rattle.std.specs.Prelude.{option_map, option_and_then, IfSome}
use Rattle.std.specs.List.{AllByRecursion}
use Rattle.mf_base.specs.declared.fault.Fault.{Fault}
use Rattle.mf_office.specs.Numbers.{is_number_up_to}
use Rattle.mf_office.specs.Texts.{IsCaller}
use Rattle.mf_office.specs.declared.caller.Caller.{Caller}
use Rattle.mf_model.specs.Calls.{Received, Call}
use Rattle.mf_model.specs.Desk.{outcome, reply, change_in}
use Rattle.mf_model.specs.Institution.{Institution, Change, JournalLine, after_noted}
use Rattle.mf_model.specs.Run.{Line, named_by, noted_of}
use Rattle.mf_model.specs.Unseen.{call_from}
use Rattle.mf_model.specs.declared.reply.Names.{Names}
use Rattle.mf_model.specs.declared.reply.Reply.{Reply}
use Rattle.mf_model.specs.declared.request.Request.{Request}
use Rattle.mf_model.specs.declared.request.Request.TheVariants.{Unreadable}
use Rattle.mf_wire_requests.specs.Requests.{request_of}
use Rattle.mf_play.specs.declared.stop.Stop.{Stop}
use Rattle.mf_play.specs.declared.stop.Stop.TheVariants.{NoRequest, OtherDay, Refused, ChangesNothing, NamesOther}

-- a request, unless it is what couldn't be read
abbrev pub if_readable : Request → Option Request
if_readable (Unreadable flaw) = None
if_readable request = Some request

-- what a text asks, if it reads as a request
abbrev pub asked_by_text : Received → Option Request
asked_by_text t = if_readable (request_of t.method t.path t.body)

-- the text that a line tells
abbrev pub text_told : JournalLine → Received
text_told l = record { told = l.told; method = l.method; path = l.path; body = l.body }

-- who a line says sent it, where a member of staff may have such numbers
abbrev pub caller_told : JournalLine → Option Caller
caller_told l = cond (is_number_up_to 9999 l.office && is_number_up_to 9999 l.staff)
    (Some (record { office = l.office; staff = l.staff })) None

-- the request that a line tells, and who sends it; none where it tells no caller or reads as no request
abbrev pub call_told : JournalLine → Option Call
call_told l = option_and_then
    (λ caller. option_map (λ request. call_from caller request (text_told l)) (asked_by_text (text_told l)))
    (caller_told l)

-- the line tells a request, and who sends it
abbrev pub TellsRequest : JournalLine → Type 0
TellsRequest l = (call : Call) × (call_told l ≡ Some call)

-- each of these lines does
abbrev pub AllTellRequests : List JournalLine → Type 0
AllTellRequests lines = AllByRecursion TellsRequest lines

-- the lines before a place do, and the one there tells none
pub record IsFirstUntold (lines : List JournalLine) (place : ℕ) : Type 0 where
  pub before : AllTellRequests (take place lines)
  pub line : JournalLine
  pub there : slice_get lines place ≡ Some line
  pub none : call_told line ≡ None

-- the office and the loan that a line names
abbrev pub names_told : JournalLine → Names
names_told l = record { office = l.named_office; loan = l.named_loan }

-- The line tells a request which the institution accepts on its business day. What it changes is something, its reply
-- names what the line names, and the institution after it is j.
pub record IsPlayed (i : Institution) (l : JournalLine) (j : Institution) : Type 0 where
  pub call : Call
  pub told : call_told l ≡ Some call
  pub day : l.day ≡ i.catalogue.day
  pub change : Change
  pub accepted : change_in (outcome call i) ≡ Some change
  pub names : names_told l ≡ named_by (reply call i)
  pub follows : j ≡ after_noted (noted_of call i) change i

-- the line tells this request, on the institution's business day
abbrev pub IsOfTheDay : Institution → JournalLine → Call → Type 0
IsOfTheDay i l call = (call_told l ≡ Some call) × (l.day ≡ i.catalogue.day)

-- this is the first thing for which the line doesn't play on the institution
abbrev pub StopsFor : Institution → JournalLine → Stop → Type 0
StopsFor i l NoRequest = call_told l ≡ None
StopsFor i l OtherDay = (call : Call) × (call_told l ≡ Some call) × (l.day ≢ i.catalogue.day)
StopsFor i l Refused = (call : Call) × IsOfTheDay i l call × (fault : Fault) × (outcome call i ≡ Err fault)
StopsFor i l ChangesNothing = (call : Call) × IsOfTheDay i l call × (r : Reply) × (outcome call i ≡ Ok (r, None))
StopsFor i l NamesOther = (call : Call) × IsOfTheDay i l call × (change : Change)
    × (change_in (outcome call i) ≡ Some change) × (names_told l ≢ named_by (reply call i))

-- the lines play one after the other, from an institution to another
abbrev pub PlaysTo : Institution → List JournalLine → Institution → Type 0
PlaysTo i [] j = j ≡ i
PlaysTo i (l ∷ ls) j = (mid : Institution) × IsPlayed i l mid × PlaysTo mid ls j

-- the lines before a place play, and the one there doesn't, for this
pub record StopsAt (i : Institution) (lines : List JournalLine) (place : ℕ) (why : Stop) : Type 0 where
  pub reached : Institution
  pub before : PlaysTo i (take place lines) reached
  pub line : JournalLine
  pub there : slice_get lines place ≡ Some line
  pub stops : StopsFor reached line why

-- the call is what its text asks, by a caller whose numbers a member of staff may have; or nothing that could be read
pub record IsAsReceived (call : Call) : Type 0 where
  pub caller : IfSome call.caller IsCaller
  pub request : IfSome (if_readable call.request) (λ request. asked_by_text call.received ≡ Some request)

-- the same of each line of a run
abbrev pub AreAsReceived : List Line → Type 0
AreAsReceived [] = Unit {0}
AreAsReceived (l ∷ ls) = IsAsReceived l.call × AreAsReceived ls
