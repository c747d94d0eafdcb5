-- Calls that the desk answered, as lines of a run on the institution that its store stands for.
use Rattle.std.specs.Prelude.{Bool, List, Result}
use Rattle.mf_base.specs.declared.fault.Fault.{Fault}
use Rattle.mf_model.specs.Calls.{Call}
use Rattle.mf_model.specs.declared.reply.Reply.{Reply}
use Rattle.mf_model.specs.Institution.{Institution}
use Rattle.mf_model.specs.Desk.{outcome, change_in}
use Rattle.mf_model.specs.Run.{Line, answer, next, noted_of}
use Rattle.mf_model.specs.Store.{left_by}
use Rattle.mf_model.specs.declared.store.InstitutionStore.{Ghosts}

module _ {S : Type 0} (store : Ghosts S) where
  -- A line of a run on the institution was answered: this is told of its reply, and the store stands for what follows.
  pub record AnswersLine (told : Result Reply Fault → Type 0) (l : Line) (i : Institution) (old new : S) : Type 0 where
    pub replied : told (answer l i)
    pub follows : store.stands new (next l i)
    pub stop : (is : List Institution) → store.leaves old is
        → store.leaves new (left_by (noted_of l.call i) (change_in (outcome l.call i)) l.given_up i is)

  -- A call was answered. Whether it was given up is known afterwards.
  pub record Calls (told : Result Reply Fault → Type 0) (call : Call) (old new : S) : Type 0 where
    pub premise : store.clean new → store.clean old
    pub answered : store.clean new → (i : Institution) → store.stands old i → (given_up : Bool)
        × AnswersLine told (record { call = call; given_up = given_up }) i old new
