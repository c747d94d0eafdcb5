-- HTTP messages where lists may be asked for, or where they may not.
use Rattle.std.specs.Prelude.{◌≡◌, ℕ, Bool, List, Option}
use Rattle.mf_model.specs.Sound.{IsInRange}
use Rattle.mf_model.specs.declared.store.InstitutionStore.{Ghosts}
use Rattle.mf_wire_messages.specs.Messages.{IsMessage, Message}
use Rattle.mf_wire.specs.Serving.{call_of_message}
use Rattle.mf_lists_runs.specs.Choice.{Choice, told_response}
use Rattle.mf_lists_runs.specs.Runs.{CallsWith}

-- A store answered the message that a stream of these bytes is by that response: what its call is told, by the desk or
-- by the lists. The call is the only one that was made and has its members in range.
pub record ListsAnswerMessage {S : Type 0} (store : Ghosts S) (choice : Choice) (told : Bool) (bytes : List ℕ)
    (old : S) (text : List ℕ) (new : S) : Type 0 where
  pub message : Option Message
  pub to_head : Bool
  pub is : IsMessage bytes message to_head
  pub in_range : IsInRange (call_of_message told message).request
  pub answered : CallsWith store choice (λ t. text ≡ told_response to_head t) (call_of_message told message) old new
