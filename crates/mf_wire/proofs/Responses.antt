-- From a message that arrived to its response.
use Rattle.std.proofs.Common.{◌≡◌, inr, ℕ, Bool, List, [], ◌∷◌, ◌++◌, Option, Some, None, refl, sym, subst}
use Rattle.std.specs.Io.KnownBytes.{Consumes, IsAtEnd}
use Rattle.mf_base.specs.declared.fault.Fault.TheVariants.{F20}
use Rattle.mf_model.specs.Institution.{Institution}
use Rattle.mf_model.specs.declared.store.InstitutionStore.{Ghosts}
use Rattle.mf_model.specs.Sound.{IsInRange}
use Rattle.mf_wire_requests.proofs.InRange.{maybe_in_range}
use Rattle.mf_wire_messages.specs.declared.reading.Arrival.TheVariants as arrival
use Rattle.mf_wire_messages.specs.Arrivals.{bytes_left, TellsArrival}
use Rattle.mf_wire_messages.specs.Messages.{is_head, request_of, IsMessage, Message}
use Rattle.mf_wire_messages.specs.Responses.{refusal}
use Rattle.mf_wire_messages.proofs.MessageLemmas.{received}
use Rattle.mf_wire.specs.Runs.{Calls}
use Rattle.mf_wire.specs.Serving.{message_parts, call_of_message, shown_response, AnswersMessage}
use Rattle.mf_wire.proofs.Calling.{told_given_up}

-- whatever a message is, its call has its members in range
pub message_in_range : (told : Bool) (message : Option Message) → IsInRange (call_of_message told message).request
message_in_range told None = tt
message_in_range told (Some message) = maybe_in_range (message_parts told message)

module _ {S : Type 0} (store : Ghosts S) (told : Bool) where
  -- a request was received
  pub answered_request : (bytes : List ℕ) (message : Message) (to_head : Bool) (text : List ℕ) (old new : S)
      → to_head ≡ is_head message.method
      → Calls store (λ r. text ≡ shown_response to_head r) (call_of_message told (Some message)) old new
      → TellsArrival bytes (arrival.Received message) → AnswersMessage store told bytes old text new
  answered_request bytes message to_head text old new e calls t = record {
    message = Some message;
    to_head = to_head;
    is = subst (IsMessage bytes (Some message)) (sym e) (received bytes message t);
    in_range = message_in_range told (Some message);
    answered = calls;
  }

  -- what had no room is given up
  pub answered_without_room : (bytes : List ℕ) (to_head : Bool) (s : S) → ((i : Institution) (is : List Institution)
      → store.leaves s is → store.leaves s (i ∷ is)) → TellsArrival bytes (arrival.NoRoom to_head)
      → AnswersMessage store told bytes s (refusal F20 to_head) s
  answered_without_room bytes to_head s more t = record {
    message = request_of t.0 t.1;
    to_head = to_head;
    is = inr (t.0, t.1, t.2, refl, t.4);
    in_range = message_in_range told (request_of t.0 t.1);
    answered = told_given_up store (λ r. refusal F20 to_head ≡ shown_response to_head r)
        (call_of_message told (request_of t.0 t.1)) s more refl;
  }

ended : (left : Option (List ℕ)) → bytes_left left ≡ [] → IsAtEnd left
ended None e = tt
ended (Some bytes) e = e

-- where nothing was read and nothing follows, the stream was at its end
pub nothing_read : (unread left : Option (List ℕ)) (read : List ℕ) → Consumes unread left read → read ++ bytes_left left
    ≡ [] → Consumes unread left [] × IsAtEnd left
nothing_read unread left [] c e = (c, ended left e)
nothing_read unread left (x ∷ read) c e = absurd (cc)
