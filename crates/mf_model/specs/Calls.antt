-- A request as it comes: who sends it, what it asks, and the text that was received.
use Rattle.std.specs.Prelude.{ℕ, List, [], Option}
use Rattle.mf_office.specs.declared.caller.Caller.{Caller}
use Rattle.mf_model.specs.declared.request.Request.{Request}

-- what the front told of a request, and its method, path and body, as bytes
pub record Received : Type 0 where
  pub told : List ℕ
  pub method : List ℕ
  pub path : List ℕ
  pub body : List ℕ

-- a request and who sends it, if the line names anybody; its text matters to no reply
pub record Call : Type 0 where
  pub caller : Option Caller
  pub request : Request
  pub received : Received

-- no text
abbrev pub nothing_received : Received
nothing_received = record { told = []; method = []; path = []; body = [] }

-- the call without its text
abbrev pub bare : Call → Call
bare call = record { caller = call.caller; request = call.request; received = nothing_received }
