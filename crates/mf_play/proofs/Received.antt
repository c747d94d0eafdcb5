-- What a text asks, and who sends it.
use Rattle.std.proofs.Common.{◌≡◌, ℕ, nat_le, Bool, true, false, cond, List, [], ◌∷◌, map, Option, Some, None}
use Rattle.std.proofs.Common.{refl, sym, subst}
use Rattle.std.specs.Prelude.{◌==◌, ◌&&◌, IfSome, is_some, decimal, length, option_and_then}
use Rattle.std.specs.Option.{option_map}
use Rattle.std.specs.List.{before_first, after_first}
use Rattle.mf_office.specs.Numbers.{IsNumberUpTo}
use Rattle.mf_office.specs.Texts.{IsCaller, caller_of}
use Rattle.mf_office.specs.Written.{number_written}
use Rattle.mf_office.specs.declared.caller.Caller.{Caller}
use Rattle.mf_office.proofs.WrittenLemmas.{written_is}
use Rattle.mf_model.specs.Run.{Line}
use Rattle.mf_model.specs.declared.request.Request.{Request}
use Rattle.mf_model.specs.declared.request.Request.TheVariants.{Unreadable}
use Rattle.mf_model.specs.declared.request.Flaw.TheVariants.{Malformed}
use Rattle.mf_wire_lines.specs.Cut.{longest_line}
use Rattle.mf_wire_requests.specs.RequestLine.{Parts, is_token, parts_in, line_in, split_space}
use Rattle.mf_wire_requests.specs.Requests.{request_of, asked_in, received_in, call_in, call_by_parts}
use Rattle.mf_wire_requests.specs.Requests.{call_of_parts}
use Rattle.mf_play.specs.Play.{if_readable, IsAsReceived, AreAsReceived}

-- a caller that is read has numbers in range
number_range : (text : List ℕ) → IfSome (number_written decimal 9999 text) (IsNumberUpTo 9999)
number_range text = step (number_written decimal 9999 text) refl
  where
    step : (o : Option ℕ) → number_written decimal 9999 text ≡ o → IfSome o (IsNumberUpTo 9999)
    step None e = tt
    step (Some n) e = (written_is decimal 9999 text n e).0

caller_range : (text : List ℕ) → IfSome (caller_of text) IsCaller
unfolding caller_of
caller_range text =
    step (number_written decimal 9999 (before_first (λ b. b == 47) text))
    (number_written decimal 9999 (after_first (λ b. b == 47) text))
    (number_range (before_first (λ b. b == 47) text)) (number_range (after_first (λ b. b == 47) text))
  where
    step : (office staff : Option ℕ) → IfSome office (IsNumberUpTo 9999) → IfSome staff (IsNumberUpTo 9999)
        → IfSome (option_and_then (λ (o : ℕ). option_map (λ (s : ℕ). let c : Caller = record {
          office = o;
          staff = s;
        } in c) staff) office) IsCaller
    step None staff h k = tt
    step (Some o) None h k = tt
    step (Some o) (Some s) h k = (h, k)

-- what is read is read
read_again : (request : Request) → IfSome (if_readable request) (λ r. if_readable request ≡ Some r)
read_again request = step (if_readable request)
  where
    step : (o : Option Request) → IfSome o (λ r. o ≡ Some r)
    step None = tt
    step (Some r) = refl

asked_again : (b : Bool) (request : Request)
    → IfSome (if_readable (cond b request (Unreadable Malformed))) (λ r. if_readable request ≡ Some r)
asked_again true request = read_again request
asked_again false request = tt

pub parts_received : (p : Parts) → IsAsReceived (call_of_parts p)
parts_received p = record {
  caller = caller_range p.caller;
  request = asked_again (is_some (caller_of p.caller) && is_token p.method) (request_of p.method p.path p.body);
}

-- so is what a caller's text sends, which may have no parts
pub message_received : (caller : List ℕ) (parts : Option Parts) → IsAsReceived (call_by_parts caller parts)
message_received caller None = record { caller = caller_range caller; request = tt }
message_received caller (Some p) = record { caller = caller_range caller; request = (parts_received p).request }

sender_range : (o : Option (List ℕ × List ℕ)) → IfSome (option_and_then (λ p. caller_of p.0) o) IsCaller
sender_range None = tt
sender_range (Some p) = caller_range p.0

pub line_received : (told : Bool) (line : List ℕ) → IsAsReceived (call_in told line)
line_received told line = record {
  caller = sender_range (split_space (line_in told line));
  request = within (nat_le (length line) longest_line) (parts_in told line);
}
  where
    within : (b : Bool) (o : Option Parts) → IfSome (if_readable (cond b (asked_in o) (Unreadable Malformed)))
        (λ r. if_readable (request_of (received_in o).method (received_in o).path (received_in o).body) ≡ Some r)
    within false o = tt
    within true None = tt
    within true (Some p) = (parts_received p).request

pub lines_received : (told : Bool) (run : List Line) (lines : List (List ℕ))
    → map (λ l. l.call) run ≡ map (call_in told) lines → AreAsReceived run
lines_received told [] lines e = tt
lines_received told (l ∷ run) [] e = absurd (cc)
lines_received told (l ∷ run) (line ∷ lines) e =
    let one : l.call ≡ call_in told line = cc in
    let rest : map (λ m. m.call) run ≡ map (call_in told) lines = cc in
    (subst IsAsReceived (sym one) (line_received told line), lines_received told run lines rest)
