-- HTTP messages over a store: which call a message is, and what answers it.
use Rattle.std.specs.Prelude.{◌≡◌, ◌≢◌, ℕ, Bool, true, false, ◌&&◌, List, [], ◌++◌}
use Rattle.std.specs.Prelude.{Option, Some, None, String, string_bytes}
use Rattle.std.specs.Prelude.{Result, Ok, Err, cond, option_and_then}
use Rattle.std.specs.Io.KnownBytes.{Appends, Consumes, IsAtEnd}
use Rattle.mf_base.specs.declared.fault.Cause.{Cause}
use Rattle.mf_base.specs.declared.fault.Cause.TheVariants.{Read, Write, Memory}
use Rattle.mf_base.specs.declared.fault.Fault.{Fault}
use Rattle.mf_base.specs.declared.fault.StreamFault.{StreamFault}
use Rattle.mf_model.specs.Calls.{Call, nothing_received}
use Rattle.mf_model.specs.declared.request.Flaw.TheVariants.{Malformed}
use Rattle.mf_model.specs.declared.request.Request.TheVariants.{Unreadable}
use Rattle.mf_model.specs.declared.reply.Reply.{Reply}
use Rattle.mf_model.specs.Sound.{IsInRange}
use Rattle.mf_model.specs.declared.store.InstitutionStore.{Ghosts}
use Rattle.mf_wire_lines.specs.Replies.{fault_status, fault_body}
use Rattle.mf_wire_lines.specs.Told.{may_be_told}
use Rattle.mf_wire_messages.specs.Arrivals.{bytes_left}
use Rattle.mf_wire_messages.specs.Messages.{IsMessage, Message}
use Rattle.mf_wire_messages.specs.Responses.{response, refusal, IsCut}
use Rattle.mf_wire_replies.specs.Shown.{reply_status, reply_body}
use Rattle.mf_wire_requests.specs.RequestLine.{Parts, fit_line}
use Rattle.mf_wire_requests.specs.Requests.{call_by_parts}
use Rattle.mf_wire.specs.Runs.{Calls}
use Rattle.mf_wire_lines.specs.Streams.{Streams}

-- the parts of a message of which this is told: its staff is the caller, and its target the path
abbrev pub parts_of_message : List ℕ → Message → Parts
parts_of_message told m =
    record { told = told; caller = m.staff; method = m.method; path = m.target; body = m.body }

-- the parts, where what is told may be told, and where they could be sent as a request line
abbrev pub if_noted : Parts → Option Parts
if_noted p = cond (may_be_told p.told && fit_line p) (Some p) None

-- the parts of a message of which is told what its field X-Told has, once at most
abbrev pub told_parts_of : Message → Option Parts
told_parts_of m = option_and_then (λ told. if_noted (parts_of_message told m)) m.told

-- the parts of a message, of which something may be told or nothing is; in that case the field is not looked at
abbrev pub message_parts : Bool → Message → Option Parts
message_parts false m = Some (parts_of_message [] m)
message_parts true m = told_parts_of m

-- the call of a message; a malformed one is nobody's
abbrev pub call_of_message : Bool → Option Message → Call
call_of_message told None = record { caller = None; request = Unreadable Malformed; received = nothing_received }
call_of_message told (Some m) = call_by_parts m.staff (message_parts told m)

-- the status of a reply
abbrev pub reply_or_fault_status : Result Reply Fault → ℕ
reply_or_fault_status (Ok reply) = reply_status reply
reply_or_fault_status (Err fault) = fault_status fault

-- the body of a reply
abbrev pub body_of : Result Reply Fault → List ℕ
body_of (Ok reply) = reply_body reply
body_of (Err fault) = fault_body fault

-- the response of a reply: the status and the body that answer it as a text, whoever wrote them
abbrev pub shown_response : Bool → Result Reply Fault → List ℕ
shown_response to_head r = response (reply_or_fault_status r) (body_of r) to_head

-- the response of a status and a body, or of a refusal
abbrev pub text_response : {Z : Type 0} → Bool → Result (ℕ × String Z) Fault → List ℕ
text_response to_head (Ok text) = response text.0 (string_bytes text.1) to_head
text_response to_head (Err fault) = refusal fault to_head

-- A store answered the message that a stream of these bytes is by that response: the reply to its call, which is the
-- only one that was made and has its members in range. Something may be told of messages, or nothing is.
pub record AnswersMessage {S : Type 0} (store : Ghosts S) (told : Bool) (bytes : List ℕ) (old : S) (text : List ℕ)
    (new : S) : Type 0 where
  pub message : Option Message
  pub to_head : Bool
  pub is : IsMessage bytes message to_head
  pub in_range : IsInRange (call_of_message told message).request
  pub answered : Calls store (λ r. text ≡ shown_response to_head r) (call_of_message told message) old new

module _ {S : Type 0} (answers : List ℕ → S → List ℕ → S → Type 0) (old new : S) (streams : Streams) where
  -- nothing was answered or written, and the sink did not fail
  pub record Untouched : Type 0 where
    pub same : new ≡ old
    pub unwritten : streams.sink.after ≡ streams.sink.before
    pub sink : streams.sink.faults_after ≡ streams.sink.faults_before

  -- the stream ended before any byte; the source did not fail
  pub record WasSilent : Type 0 where
    pub none : Consumes streams.source.before streams.source.after []
    pub ended : IsAtEnd streams.source.after
    pub source : streams.source.faults_after ≡ streams.source.faults_before
    pub untouched : Untouched

  -- the stream's message was answered, and its response was written whole; neither stream failed
  pub record WasServed : Type 0 where
    pub read : List ℕ
    pub consumed : Consumes streams.source.before streams.source.after read
    pub text : List ℕ
    pub answered : answers (read ++ bytes_left streams.source.after) old text new
    pub written : Appends streams.sink.before streams.sink.after text
    pub source : streams.source.faults_after ≡ streams.source.faults_before
    pub sink : streams.sink.faults_after ≡ streams.sink.faults_before

  -- the source failed in this call: nothing was answered or written
  pub record FailedReading (count : ℕ) : Type 0 where
    pub counted : count ≡ 0
    pub source : streams.source.faults_after ≢ streams.source.faults_before
    pub untouched : Untouched

  -- the sink failed in this call: the stream's message was answered, and only a beginning of its response was written;
  -- the source did not fail
  pub record FailedWriting (count : ℕ) : Type 0 where
    pub counted : count ≡ 0
    pub read : List ℕ
    pub consumed : Consumes streams.source.before streams.source.after read
    pub text : List ℕ
    pub answered : answers (read ++ bytes_left streams.source.after) old text new
    pub cut : IsCut streams.sink.before streams.sink.after text
    pub source : streams.source.faults_after ≡ streams.source.faults_before
    pub sink : streams.sink.faults_after ≢ streams.sink.faults_before

  -- there was no memory to begin: nothing was answered or written
  pub record NeverBegan (count : ℕ) : Type 0 where
    pub counted : count ≡ 0
    pub untouched : Untouched

  -- by the cause of a fault, and how many responses were written whole
  abbrev pub EndsMessageBy : Cause → ℕ → Type 0
  EndsMessageBy Read count = FailedReading count
  EndsMessageBy Write count = FailedWriting count
  EndsMessageBy Memory count = NeverBegan count

  -- what serving a message leaves, by what it answers
  abbrev pub EndsMessage : Result Bool StreamFault → Type 0
  EndsMessage (Ok false) = WasSilent
  EndsMessage (Ok true) = WasServed
  EndsMessage (Err fault) = EndsMessageBy fault.cause fault.answered
