-- Messages answered one after another over a store, as by a server.
use Rattle.std.specs.Prelude.{◌≡◌, ℕ, Bool, List, [], ◌∷◌, map, Option, Result}
use Rattle.mf_base.specs.declared.fault.Fault.{Fault}
use Rattle.mf_model.specs.declared.reply.Reply.{Reply}
use Rattle.mf_model.specs.Institution.{Institution}
use Rattle.mf_model.specs.Run.{Line, answers, last, ViewIsPlay, RepliesArePlay, OwnRepliesArePlay}
use Rattle.mf_model.specs.Sound.{AreInRange}
use Rattle.mf_model.specs.Store.{left_after}
use Rattle.mf_model.specs.declared.store.InstitutionStore.{Ghosts}
use Rattle.mf_wire_messages.specs.Messages.{IsMessage, Message}
use Rattle.mf_wire.specs.Serving.{AnswersMessage, call_of_message, shown_response}

-- the bytes of a stream, and the response to the message that they are
pub record Exchange : Type 0 where
  pub bytes : List ℕ
  pub text : List ℕ

-- the line is the call of the message that the bytes are, of which something may be told or nothing is
abbrev pub IsLineOfMessage : Bool → List ℕ → Line → Bool → Type 0
IsLineOfMessage told bytes l to_head = (message : Option Message) × IsMessage bytes message to_head
    × (l.call ≡ call_of_message told message)

-- the same of each of the streams
abbrev pub AreLinesOf : Bool → List Exchange → List Line → List Bool → Type 0
AreLinesOf told [] [] [] = Unit {0}
AreLinesOf told (e ∷ es) (l ∷ ls) (to_head ∷ others) =
    IsLineOfMessage told e.bytes l to_head × AreLinesOf told es ls others
AreLinesOf told _ _ _ = ⊥

-- the responses of replies
abbrev pub responses : List Bool → List (Result Reply Fault) → List (List ℕ)
responses (to_head ∷ others) (r ∷ rs) = shown_response to_head r ∷ responses others rs
responses _ _ = []

module _ {S : Type 0} (store : Ghosts S) (told : Bool) where
  -- the store answered these messages one after another
  abbrev pub AnswersAll : S → List Exchange → S → Type 0
  AnswersAll old [] new = new ≡ old
  AnswersAll old (e ∷ es) new = (mid : S) × AnswersMessage store told e.bytes old e.text mid × AnswersAll mid es new

  -- The messages are the lines of a run on the institution, with their members in range, the responses are those of its
  -- replies, and the store stands for what follows. What each office sees and is told is isolated.
  pub record ServesOn (i : Institution) (es : List Exchange) (old new : S) : Type 0 where
    pub run : List Line
    pub to_heads : List Bool
    pub calls : AreLinesOf told es run to_heads
    pub in_range : AreInRange run
    pub replied : map (λ e. e.text) es ≡ responses to_heads (answers run i)
    pub follows : store.stands new (last run i)
    pub views : ViewIsPlay i run
    pub replies : RepliesArePlay i run
    pub own_replies : OwnRepliesArePlay i run
    pub stop : (is : List Institution) → store.leaves old is → store.leaves new (left_after run i is)
