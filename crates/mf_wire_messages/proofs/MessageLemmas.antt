-- A message by its head and the bytes after it.
use Rattle.std.proofs.Common.{◌≡◌, ◌≢◌, inl, inr, ℕ, ◌<◌, ◌≤◌, List, [], ◌∷◌, ◌++◌, refl, sym, ap, ap₂, ◌∙◌, subst}
use Rattle.std.proofs.Common.{arith, length, length-append, take, drop, map, append_assoc, append-nil, Option, None}
use Rattle.std.proofs.Common.{Some, Bool, true, false, cond, nat_le, option_and_then}
use Rattle.std.proofs.lemmas.Bool.{le-leb, lt-leb}
use Rattle.std.proofs.lemmas.List.{take-append-le, length-take-le, length-map}
use Rattle.std.specs.Io.KnownBytes.{Consumes, IsAtEnd}
use Rattle.httparse.specs.Grammar.{RequestHead}
use Rattle.httparse.specs.Spans.{IsRequestAt, IsRequestWithin, name_and_value, header_bytes}
use Rattle.httparse.specs.declared.spans.HeaderSpan.{HeaderSpan}
use Rattle.httparse.specs.declared.spans.RequestSpans.{RequestSpans}
use Rattle.httparse.proofs.GrammarLemmas.{ReadsRequest-append, request_unique}
use Rattle.mf_wire_messages.specs.Heads.{ReadsHead}
use Rattle.mf_wire_messages.specs.Messages.{Message, frame_of, told_in, request_within, request_of, is_head, IsMessage}
use Rattle.mf_wire_messages.specs.Arrivals.{bytes_left, TellsArrival, Arrives}
use Rattle.mf_wire_messages.specs.declared.reading.Arrival.{Arrival}
use Rattle.std.proofs.KnownBytes.{Consumes-trans}
use Rattle.std.proofs.Math.Seq.{take-append_seam}
use Rattle.mf_wire_messages.proofs.HeadLemmas.{none_follows}

pub nonempty_front : (xs ys : List ℕ) → xs ≢ [] → xs ++ ys ≢ []
nonempty_front [] ys n e = n refl
nonempty_front (x ∷ xs) ys n e = absurd (omega (arith, ap length e))

-- what was parsed is the head of the whole stream
pub head_there : (bytes more : List ℕ) (fields : List HeaderSpan) (spans : RequestSpans) (head : RequestHead)
    → length bytes ≤ 16384 → length fields ≤ 64
    → IsRequestWithin bytes fields spans → IsRequestAt bytes fields spans head
    → ReadsHead (bytes ++ more) head (drop spans.len bytes ++ more)
head_there bytes more fields spans head short few within at = record {
  reads = ReadsRequest-append bytes head (drop spans.len bytes) more at.reads;
  short = omega (arith, short, at.len, within.section.len_fits);
  few = omega (
    arith,
    few,
    within.section.count_fits,
    ap length at.fields,
    length-map head.fields name_and_value,
    length-map (take spans.headers fields) (header_bytes bytes),
    length-take-le spans.headers fields
        within.section.count_fits,
  );
}

pub unframed : (head : RequestHead) (rest : List ℕ) → frame_of (map name_and_value head.fields) ≡ None
    → request_of head rest ≡ None
unframed head rest e = ap (option_and_then (request_within head rest)) e

-- the body is cut
pub cut_short : (head : RequestHead) (begun more : List ℕ) (left : Option (List ℕ)) (frame : List ℕ × ℕ) (size : ℕ)
    → frame_of (map name_and_value head.fields) ≡ Some frame → size ≡ frame.1
    → length (begun ++ more) < size → IsAtEnd left → request_of head (begun ++ (more ++ bytes_left left)) ≡ None
cut_short head begun more left frame size e same short end =
    let all : begun ++ (more ++ bytes_left left) ≡ begun ++ more =
    ap (λ l. begun ++ l) (ap (λ l. more ++ l) (none_follows left end) ∙ append-nil more) in
    ap (request_of head) all ∙ ap (option_and_then (request_within head (begun ++ more))) e
    ∙ ap (λ t. cond t (Some (record {
      told = told_in (map name_and_value head.fields);
      staff = frame.0;
      method = head.method;
      target = head.target;
      body = take frame.1 (begun ++ more);
    })) None) (lt-leb frame.1 (length (begun ++ more))
    (omega (arith, same, short)))

-- the body is whole
pub whole_request : (head : RequestHead) (begun more body : List ℕ) (left : Option (List ℕ)) (frame : List ℕ × ℕ)
    → frame_of (map name_and_value head.fields) ≡ Some frame → length body ≡ frame.1
    → length body ≤ length (begun ++ more) → body ≡ take (length body) (begun ++ more)
    → request_of head (begun ++ (more ++ bytes_left left)) ≡ Some (record {
      told = told_in (map name_and_value head.fields);
      staff = frame.0;
      method = head.method;
      target = head.target;
      body = body;
    })
whole_request head begun more body left frame e same fits content =
    let rest = begun ++ (more ++ bytes_left left) in
    let parts : rest ≡ (begun ++ more) ++ bytes_left left = sym (append_assoc begun more (bytes_left left)) in
    let long : length rest ≡ length ((begun ++ more) ++ bytes_left left) = ap length parts in
    let taken : take frame.1 rest ≡ body =
    ap (take frame.1) parts ∙ take-append-le frame.1 (begun ++ more) (bytes_left left) (omega (arith, same, fits))
    ∙ ap (λ n. take n (begun ++ more)) (sym same) ∙ sym content in
    ap (option_and_then (request_within head rest)) e
    ∙ ap (λ t. cond t (Some (record {
      told = told_in (map name_and_value head.fields);
      staff = frame.0;
      method = head.method;
      target = head.target;
      body = take frame.1 rest;
    })) None) (le-leb frame.1 (length rest)
    (omega (arith, same, fits, long, length-append (begun ++ more) (bytes_left left))))
    ∙ ap (λ b. Some (record {
      told = told_in (map name_and_value head.fields);
      staff = frame.0;
      method = head.method;
      target = head.target;
      body = b;
    })) taken

-- the head and its message are read one after the other
pub together : (a b d : Option (List ℕ)) (bytes : List ℕ) (arrival : Arrival) → Consumes a b bytes
    → ((more : List ℕ) × Consumes b d more × TellsArrival (bytes ++ (more ++ bytes_left d)) arrival)
    → Arrives a d arrival
together a b d bytes arrival p t = (
  bytes ++ t.0,
  Consumes-trans a b d bytes t.0 p t.1,
  subst (λ l. TellsArrival l arrival)
      (sym (append_assoc bytes t.0 (bytes_left d))) t.2,
)

abbrev pub made : Option (List ℕ) → List ℕ → List ℕ → List ℕ → List ℕ → Message
made told staff method target body =
    record { told = told; staff = staff; method = method; target = target; body = body }

pub same_request : (told said : Option (List ℕ)) (staff method target body verb path content : List ℕ) → told ≡ said
    → method ≡ verb → target ≡ path → body ≡ content
    → Some (made told staff method target body) ≡ Some (made said staff verb path content)
same_request told said staff method target body verb path content t p q r i =
    Some (made (t i) staff (p i) (q i) (r i))

-- a vector whose slice was written as a whole
pub written : (size : ℕ) (new old : List ℕ) → length new ≡ size → take size (new ++ drop (length new) old) ≡ new
written size new old e = ap (λ n. take n (new ++ drop (length new) old)) (sym e)
    ∙ take-append_seam new (drop (length new) old)

-- the method of a request is that of its head
method_is : (head : RequestHead) (rest : List ℕ) (request : Message) → request_of head rest ≡ Some request
    → head.method ≡ request.method
method_is head rest request e = framed (frame_of (map name_and_value head.fields)) e
  where
    cut_or_whole : (frame : List ℕ × ℕ) (whole : Bool)
        → cond whole (Some (made (told_in (map name_and_value head.fields)) frame.0 head.method head.target
        (take frame.1 rest))) None ≡ Some request
        → head.method ≡ request.method
    cut_or_whole frame true e = let same : made (told_in (map name_and_value head.fields)) frame.0 head.method
        head.target (take frame.1 rest) ≡ request =
        cc in ap (λ (r : Message). r.method) same
    cut_or_whole frame false e = absurd (cc)

    framed : (frame : Option (List ℕ × ℕ)) → option_and_then (request_within head rest) frame ≡ Some request
        → head.method ≡ request.method
    framed None e = absurd (cc)
    framed (Some frame) e = cut_or_whole frame (nat_le frame.1 (length rest)) e

-- a request that was received is the message of the stream
pub received : (bytes : List ℕ) (request : Message) → (head : RequestHead) × (rest : List ℕ) × ReadsHead bytes head rest
    × (request_of head rest ≡ Some request) → IsMessage bytes (Some request) (is_head request.method)
received bytes request t = inr (t.0, t.1, t.2, sym t.3, sym (ap is_head (method_is t.0 t.1 request t.3)))

-- the bytes of a stream are no two messages
pub one_message : (bytes : List ℕ) (message other : Option Message) (to_head other_to_head : Bool)
    → IsMessage bytes message to_head → IsMessage bytes other other_to_head → (message ≡ other)
    × (to_head ≡ other_to_head)
one_message bytes message other to_head other_to_head (inl a) (inl b) = (a.2 ∙ sym b.2, a.3 ∙ sym b.3)
one_message bytes message other to_head other_to_head (inl a) (inr b) = absurd (a.1 b.0 b.1 b.2)
one_message bytes message other to_head other_to_head (inr a) (inl b) = absurd (b.1 a.0 a.1 a.2)
one_message bytes message other to_head other_to_head (inr a) (inr b) =
    let same = request_unique bytes a.0 b.0 a.1 b.1 a.2.reads b.2.reads in (
      a.3 ∙ ap₂ request_of same.0 same.1 ∙ sym b.3,
      a.4 ∙ ap (λ (head : RequestHead). is_head head.method) same.0
          ∙ sym b.4,
    )
