-- From a message that arrived to its response, by the desk or by a list.
use Rattle.std.proofs.Common.{◌≡◌, inl, inr, ℕ, Bool, List, ◌∷◌, Some, None, refl, sym, subst}
use Rattle.mf_base.specs.declared.fault.Fault.TheVariants.{F1, F20}
use Rattle.mf_model.specs.Institution.{Institution}
use Rattle.mf_model.specs.declared.store.InstitutionStore.{Ghosts}
use Rattle.mf_wire_messages.specs.declared.reading.Arrival.TheVariants as arrival
use Rattle.mf_wire_messages.specs.Arrivals.{TellsArrival}
use Rattle.mf_wire_messages.specs.Messages.{is_head, request_of, IsMessage, Message}
use Rattle.mf_wire_messages.specs.Responses.{refusal}
use Rattle.mf_wire_messages.proofs.MessageLemmas.{received}
use Rattle.mf_model.specs.declared.request.Flaw.TheVariants.{Malformed}
use Rattle.mf_wire.specs.Serving.{call_of_message, shown_response}
use Rattle.mf_wire.proofs.Calling.{told_malformed}
use Rattle.mf_wire.proofs.Responses.{message_in_range}
use Rattle.mf_lists_runs.specs.Choice.{Choice, told_response}
use Rattle.mf_lists_runs.specs.Runs.{CallsWith}
use Rattle.mf_lists_runs.specs.Serving.{ListsAnswerMessage}
use Rattle.mf_lists_runs.proofs.Calling.{asks_where, given_up_calls, plain_calls}

module _ {S : Type 0} (store : Ghosts S) (choice : Choice) (told : Bool) where
  -- a request was received
  pub answered_request : (bytes : List ℕ) (message : Message) (to_head : Bool) (text : List ℕ) (old new : S)
      → to_head ≡ is_head message.method
      → CallsWith store choice (λ t. text ≡ told_response to_head t) (call_of_message told (Some message)) old new
      → TellsArrival bytes (arrival.Received message) → ListsAnswerMessage store choice told bytes old text new
  answered_request bytes message to_head text old new e calls t = record {
    message = Some message;
    to_head = to_head;
    is = subst (IsMessage bytes (Some message)) (sym e) (received bytes message t);
    in_range = message_in_range told (Some message);
    answered = calls;
  }

  -- what is malformed is refused
  pub answered_malformed : (bytes : List ℕ) (to_head : Bool) (s : S) → TellsArrival bytes (arrival.Malformed to_head)
      → ListsAnswerMessage store choice told bytes s (refusal F1 to_head) s
  answered_malformed bytes to_head s t = record {
    message = None;
    to_head = to_head;
    is = elim t [
      | inl w ↦ inl (w.0, w.1, refl, w.2)
      | inr w ↦ inr (w.0, w.1, w.2, sym w.3, w.4)
    ];
    in_range = message_in_range told None;
    answered = plain_calls store choice (λ r. refusal F1 to_head ≡ told_response to_head r) (call_of_message told None)
        s s (asks_where choice (call_of_message told None) refl)
        (told_malformed store (λ r. refusal F1 to_head ≡ shown_response to_head r) (call_of_message told None) s
        Malformed refl refl);
  }

  -- what had no room is given up
  pub answered_without_room : (bytes : List ℕ) (to_head : Bool) (s : S) → ((i : Institution) (is : List Institution)
      → store.leaves s is → store.leaves s (i ∷ is)) → TellsArrival bytes (arrival.NoRoom to_head)
      → ListsAnswerMessage store choice told bytes s (refusal F20 to_head) s
  answered_without_room bytes to_head s more t = record {
    message = request_of t.0 t.1;
    to_head = to_head;
    is = inr (t.0, t.1, t.2, refl, t.4);
    in_range = message_in_range told (request_of t.0 t.1);
    answered = given_up_calls store choice (λ r. refusal F20 to_head ≡ told_response to_head r)
        (call_of_message told (request_of t.0 t.1)) s more refl;
  }
