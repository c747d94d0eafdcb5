-- One call is a run of one line, so it is isolated.
use Rattle.std.proofs.Common.{◌≡◌, ◌≢◌, ℕ, Bool, true, false, cond, List, [], ◌∷◌, Option, Some, Result, Ok, Err, sym}
use Rattle.std.proofs.Common.{ap, ap₂, ◌∙◌, subst, arith}
use Rattle.std.specs.Prelude.{◌==◌, ◌||◌, is_some, String}
use Rattle.std.proofs.lemmas.Bool.Decides.{nat_tests}
use Rattle.mf_base.specs.declared.fault.Fault.{Fault}
use Rattle.mf_base.specs.declared.fault.Fault.TheVariants.{F20}
use Rattle.mf_office.specs.declared.caller.Caller.{Caller}
use Rattle.mf_model.specs.Calls.{Call, bare}
use Rattle.mf_model.specs.declared.reply.Reply.{Reply}
use Rattle.mf_model.specs.Institution.{Institution}
use Rattle.mf_model.specs.Tree.{IsTree, view}
use Rattle.mf_model.specs.Desk.{reply}
use Rattle.mf_model.specs.Run.{Line, Touch, answer, change_of_line, from_office, is_of, is_touched, but_given_up}
use Rattle.mf_model.specs.Run.{play_replies, RepliesArePlay}
use Rattle.mf_model.specs.declared.store.InstitutionStore.{Ghosts}
use Rattle.mf_wire_messages.specs.Messages.{IsMessage, Message}
use Rattle.mf_wire_messages.specs.Responses.{response, refusal}
use Rattle.mf_wire_messages.proofs.MessageLemmas.{one_message}
use Rattle.mf_wire_replies.specs.Shown.{IsReplyText}
use Rattle.mf_wire.specs.OneCall.{IsIsolatedCall, line_of_call, or_given_up}
use Rattle.mf_wire.specs.Runs.{Calls}
use Rattle.mf_wire.specs.Serving.{AnswersMessage, call_of_message, shown_response, text_response}
use Rattle.mf_wire.proofs.Ran.{IsolationLaw}

own_office : (c : Caller) → (c.office == c.office) ≡ true
own_office c = grind (arith, nat_tests)

is_from : (call : Call) (c : Caller) → call.caller ≡ Some c → from_office c.office call ≡ true
is_from call c e = ap (is_of c.office) e ∙ own_office c

only : (a b : Result Reply Fault) → a ∷ [] ≡ b ∷ [] → a ≡ b
only a b e = cc

-- a line of an office's caller, which is all of the run
own_line : (l : Line) (o : ℕ) (i : Institution) → from_office o l.call ≡ true → RepliesArePlay i (l ∷ [])
    → answer l i ≡ or_given_up l.given_up (reply l.call (view o i))
own_line l o i own law =
    let touch : Touch = record { call = bare l.call; accepted = is_some (change_of_line l i) } in
    let outer : Bool → Type 0 = λ b. cond b (answer l i ∷ []) [] ≡ but_given_up (cond b (l.given_up ∷ []) [])
    (play_replies (from_office o) (cond (b || is_touched o i (change_of_line l i)) (touch ∷ []) []) (view o i)) in
    let inner : Bool → Type 0 =
    λ b. answer l i ∷ [] ≡ but_given_up (l.given_up ∷ []) (cond b (reply l.call (view o i) ∷ []) []) in
    only (answer l i) (or_given_up l.given_up (reply l.call (view o i))) (subst inner own (subst outer own (law o)))

module _ {S : Type 0} (store : Ghosts S) where
  -- a call that was answered is isolated, where the offices are a tree
  pub isolated_call : IsolationLaw → (told : Result Reply Fault → Type 0) (call : Call) (old new : S) (i : Institution)
      → IsTree i.offices
      → Calls store told call old new → store.clean new → store.stands old i → IsIsolatedCall store.stands told call i
      new
  isolated_call law told call old new i tree calls c s =
      let w = calls.answered c i s in
      let l = line_of_call call w.0 in record {
        given_up = w.0;
        own = λ caller e. subst told (own_line l caller.office i (is_from call caller e) (law.replies i (l ∷ []) tree))
            w.1.replied;
        follows = w.1.follows;
        views = law.views i (l ∷ []) tree;
      }

  -- a message that was answered was answered as the message that it is
  pub as_message : (told : Bool) (bytes text : List ℕ) (old new : S) (message : Option Message) (to_head : Bool)
      → IsMessage bytes message to_head → AnswersMessage store told bytes old text new
      → Calls store (λ r. text ≡ shown_response to_head r) (call_of_message told message) old new
  as_message told bytes text old new message to_head is a =
      let same = one_message bytes a.message message a.to_head to_head a.is is in
      subst (λ (t : Bool). Calls store (λ r. text ≡ shown_response t r) (call_of_message told message) old new) same.1
      (subst (λ (m : Option Message). Calls store (λ r. text ≡ shown_response a.to_head r)
      (call_of_message told m) old new)
      same.0 a.answered)

-- what two institutions are told of one call is the same where the caller's office sees the same, unless it is given up
pub same_response : (to_head g h : Bool) (call : Call) (v w : Institution) (text other : List ℕ) → v ≡ w
    → text ≡ shown_response to_head (or_given_up g (reply call v))
    → other ≡ shown_response to_head (or_given_up h (reply call w))
    → text ≢ refusal F20 to_head → other ≢ refusal F20 to_head → text ≡ other
same_response to_head true h call v w text other e one two m n = absurd (m one)
same_response to_head false true call v w text other e one two m n = absurd (n two)
same_response to_head false false call v w text other e one two m n =
    one ∙ ap (λ x. shown_response to_head (reply call x)) e ∙ sym two

-- the texts of a reply make its response
pub text_is_shown : {Z : Type 0} (to_head : Bool) (text : Result (ℕ × String Z) Fault) (r : Result Reply Fault)
    → IsReplyText text r → text_response to_head text ≡ shown_response to_head r
text_is_shown to_head (Ok text) (Ok reply) e = ap₂ (λ status body. response status body to_head) e.0 e.1
text_is_shown to_head (Err fault) (Err refused) e = ap (λ f. refusal f to_head) e
text_is_shown to_head (Ok text) (Err refused) e = absurd e
text_is_shown to_head (Err fault) (Ok reply) e = absurd e

text_refused : {Z : Type 0} (text : Result (ℕ × String Z) Fault) (fault : Fault) → IsReplyText text (Err fault)
    → text ≡ Err fault
text_refused (Ok text) fault e = absurd e
text_refused (Err refused) fault e = ap Err e

pub same_text : {Z : Type 0} (to_head g h : Bool) (call : Call) (v w : Institution) (text : List ℕ)
    (answered : Result (ℕ × String Z) Fault) → v ≡ w
    → text ≡ shown_response to_head (or_given_up g (reply call v)) → IsReplyText answered (or_given_up h (reply call w))
    → text ≢ refusal F20 to_head → answered ≢ Err F20 → text ≡ text_response to_head answered
same_text to_head true h call v w text answered e one two m n = absurd (m one)
same_text to_head false true call v w text answered e one two m n = absurd (n (text_refused answered F20 two))
same_text to_head false false call v w text answered e one two m n =
    one ∙ ap (λ x. shown_response to_head (reply call x)) e ∙ sym (text_is_shown to_head answered (reply call w) two)
