-- What one call comes to, office by office.
use Rattle.std.specs.Prelude.{◌≡◌, ℕ, Bool, cond, [], ◌∷◌, Some, Result, Err}
use Rattle.mf_base.specs.declared.fault.Fault.{Fault}
use Rattle.mf_base.specs.declared.fault.Fault.TheVariants.{F20}
use Rattle.mf_office.specs.declared.caller.Caller.{Caller}
use Rattle.mf_model.specs.Calls.{Call}
use Rattle.mf_model.specs.declared.reply.Reply.{Reply}
use Rattle.mf_model.specs.Institution.{Institution}
use Rattle.mf_model.specs.Tree.{view}
use Rattle.mf_model.specs.Desk.{reply}
use Rattle.mf_model.specs.Run.{Line, next, touching_list, play}

-- the call, given up or not, as a run of one line
abbrev pub line_of_call : Call → Bool → Line
line_of_call call given_up = record { call = call; given_up = given_up }

-- what is told of a call where it may be given up
abbrev pub or_given_up : Bool → Result Reply Fault → Result Reply Fault
or_given_up given_up r = cond given_up (Err F20) r

-- What is told is told of the reply of what the caller's office sees, or of F20 where the call is given up. What an
-- office sees afterwards is what the call, where it touches the office, makes of what it saw.
pub record IsIsolatedCall {S : Type 0} (stands : S → Institution → Type 0) (told : Result Reply Fault → Type 0)
    (call : Call) (i : Institution) (new : S) : Type 0 where
  pub given_up : Bool
  pub own : (c : Caller) → call.caller ≡ Some c → told (or_given_up given_up (reply call (view c.office i)))
  pub follows : stands new (next (line_of_call call given_up) i)
  pub views : (o : ℕ) → view o (next (line_of_call call given_up) i)
      ≡ play (touching_list o (line_of_call call given_up ∷ []) i)
      (view o i)
