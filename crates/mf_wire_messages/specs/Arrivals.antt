-- What reading a message comes to.
use Rattle.std.specs.Prelude.{◌≡◌, ◌≢◌, ℕ, ◌<◌, ◌≤◌, ◌⊎◌, Bool, false, MatchBool, List, [], ◌++◌, length, take, map}
use Rattle.std.specs.Prelude.{Option, Some, None, IsSome, unwrap_or}
use Rattle.std.specs.Io.KnownBytes.{Consumes, IsAtEnd}
use Rattle.httparse.specs.Grammar.{RequestHead}
use Rattle.httparse.specs.Spans.{name_and_value, IsRequestWithin, IsRequestOf}
use Rattle.httparse.specs.declared.spans.HeaderSpan.{HeaderSpan}
use Rattle.mf_wire_messages.specs.Heads.{ReadsHead, HasNoHead}
use Rattle.mf_wire_messages.specs.Messages.{frame_of, request_of, is_head}
use Rattle.mf_wire_messages.specs.declared.head.HeadRead.{HeadRead}
use Rattle.mf_wire_messages.specs.declared.head.HeadRead.TheVariants.{Nothing, Refused, Complete}
use Rattle.mf_wire_messages.specs.declared.reading.Arrival.{Arrival}
use Rattle.mf_wire_messages.specs.declared.reading.Arrival.TheVariants.{Silent, Received, Malformed, NoRoom}

-- the bytes that follow: those that are left, where they are known
abbrev pub bytes_left : Option (List ℕ) → List ℕ
bytes_left left = unwrap_or left []

-- What was read for a head: nothing of an empty stream, what begins no head whatever follows, or a whole head, where
-- its parts are told by spans
abbrev pub TellsHead : Option (List ℕ) → Option (List ℕ) → List ℕ → List HeaderSpan → HeadRead → Type 0
TellsHead unread left room fields Nothing = Consumes unread left [] × IsAtEnd left
TellsHead unread left room fields Refused = (read : List ℕ) × Consumes unread left read × (read ≢ [])
    × HasNoHead (read ++ bytes_left left)
TellsHead unread left room fields (Complete spans size) =
    (size ≤ length room) × Consumes unread left (take size room) × IsRequestWithin (take size room) fields spans
    × IsRequestOf (take size room) fields spans

-- What was read for a body, of which some bytes were there: all of it, or less and then the end
abbrev pub TellsBody : Option (List ℕ) → Option (List ℕ) → List ℕ → List ℕ → Bool → Type 0
TellsBody unread left begun body whole =
    (more : List ℕ) × Consumes unread left more
    × MatchBool whole ((length body ≤ length (begun ++ more)) × (body ≡ take (length body) (begun ++ more)))
    ((length (begun ++ more) < length body) × IsAtEnd left)

-- What a stream of these bytes is told as: nothing, a request, or a refusal. Malformed is what begins no head, or a
-- head whose fields are not in order or whose body is cut.
abbrev pub TellsArrival : List ℕ → Arrival → Type 0
TellsArrival bytes Silent = bytes ≡ []
TellsArrival bytes (Received request) = (head : RequestHead) × (rest : List ℕ) × ReadsHead bytes head rest
    × (request_of head rest ≡ Some request)
TellsArrival bytes (Malformed to_head) =
    ((bytes ≢ []) × HasNoHead bytes × (to_head ≡ false))
    ⊎ ((head : RequestHead) × (rest : List ℕ) × ReadsHead bytes head rest × (request_of head rest ≡ None)
    × (to_head ≡ is_head head.method))
TellsArrival bytes (NoRoom to_head) =
    (head : RequestHead) × (rest : List ℕ) × ReadsHead bytes head rest
    × IsSome (frame_of (map name_and_value head.fields)) × (to_head ≡ is_head head.method)

-- some bytes were read, and with those that follow them the stream is told as that
abbrev pub Arrives : Option (List ℕ) → Option (List ℕ) → Arrival → Type 0
Arrives unread left arrival = (read : List ℕ) × Consumes unread left read
    × TellsArrival (read ++ bytes_left left) arrival
