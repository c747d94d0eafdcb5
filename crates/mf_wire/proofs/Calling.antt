-- From the desk's answer to the text of a reply.
use Rattle.std.proofs.Common.{◌≡◌, ℕ, nat_le, Bool, true, false, cond, List, ◌∷◌, Option, Some, None, Result, Ok, Err}
use Rattle.std.proofs.Common.{refl, sym, ap, ◌∙◌, subst}
use Rattle.std.specs.Prelude.{◌&&◌, is_some, length, [], option_map, option_and_then, unwrap_or, IsErr}
use Rattle.mf_base.specs.declared.fault.Fault.{Fault}
use Rattle.mf_model.specs.Calls.{Call, Received}
use Rattle.mf_model.specs.declared.request.Request.{Request}
use Rattle.mf_model.specs.declared.request.Request.TheVariants.{Unreadable}
use Rattle.mf_model.specs.declared.request.Flaw.{Flaw}
use Rattle.mf_model.specs.declared.request.Flaw.TheVariants.{Malformed}
use Rattle.mf_model.specs.declared.reply.Reply.{Reply}
use Rattle.mf_model.specs.Institution.{Institution, Change, after_line, after_noted}
use Rattle.mf_model.specs.Run.{noted_of}
use Rattle.mf_model.specs.Desk.{Outcome, flaw_fault, outcome, reply, reply_in, change_in}
use Rattle.mf_model.specs.Store.{left_by}
use Rattle.mf_model.specs.declared.store.InstitutionStore.{Ghosts}
use Rattle.mf_desk.specs.Answers.{Tells, Changes}
use Rattle.mf_model.specs.Unseen.{call_from}
pub use Rattle.mf_desk.proofs.Calling.{told_of_answer, told_given_up}
use Rattle.mf_office.specs.Texts.{caller_of}
use Rattle.mf_office.specs.declared.caller.Caller.{Caller}
use Rattle.mf_wire_lines.specs.Cut.{longest_line}
use Rattle.mf_wire_lines.specs.Told.{may_be_told}
use Rattle.mf_wire_messages.specs.Messages.{Message}
use Rattle.mf_wire_requests.specs.RequestLine.{Parts, after_caller, parts_after, parts_of_line, parts_in, parts_told}
use Rattle.mf_wire_requests.specs.RequestLine.{with_told, line_in, split_space, is_told_word, is_token, fit_line}
use Rattle.mf_wire_requests.specs.Requests.{request_of, asked_in, received_in, received_in_parts, call_of_parts}
use Rattle.mf_wire_requests.specs.Requests.{call_in}
use Rattle.mf_wire.specs.Serving.{parts_of_message, if_noted, message_parts, call_of_message}
use Rattle.mf_wire.specs.Runs.{Calls}

module _ {S : Type 0} (store : Ghosts S) where
  -- what reads as no request is refused, and nothing is changed
  pub told_malformed : (told : Result Reply Fault → Type 0) (call : Call) (s : S) (flaw : Flaw) → call.request
      ≡ Unreadable flaw → told (Err (flaw_fault flaw)) → Calls store told call s s
  told_malformed told call s flaw e t =
      let o : (i : Institution) → outcome call i ≡ Err (flaw_fault flaw) =
      λ i. ap (λ (r : Request). outcome (record { caller = call.caller; request = r; received = call.received }) i) e in
      record {
        premise = λ c. c;
        answered = λ c i h. (
          false,
          record {
            replied = subst told (sym (ap reply_in (o i))) t;
            follows = subst (λ (x : Outcome). store.stands s (after_line (noted_of call i) (change_in x) i))
                (sym (o i)) h;
            stop = λ is l. subst (λ (x : Outcome). store.leaves s
                (left_by (noted_of call i) (change_in x) false i is)) (sym (o i)) l;
          },
        );
      }

  -- a call that is refused before anything is looked up changes nothing
  pub refused_at_once : {T : Type 0} (call : Call) (s : S) (result : Result T Fault)
      → ((s : S) (i : Institution) (is : List Institution) → store.leaves s is → store.leaves s (i ∷ is))
      → IsErr result → Changes store {T = T} call s s result
  refused_at_once call s (Ok t) more e = absurd (cc)
  refused_at_once call s (Err fault) more e = record {
    premise = λ k. k;
    made = λ k i h. tt;
    same = λ k i h. h;
    stop = λ k i is h l. tt;
    stop_refused = λ k i is h l. either (change_in (outcome call i)) i is l;
  }
    where
      either : (c : Option Change) (i : Institution) (is : List Institution) → store.leaves s is
          → store.leaves s (left_by (noted_of call i) c true i is)
      either None i is l = l
      either (Some change) i is l = more s (after_noted (noted_of call i) change i) is l

  -- what is told of the replies to a call in other words
  pub calls_weaker : (told other : Result Reply Fault → Type 0) (call : Call) (old new : S)
      → ((r : Result Reply Fault) → told r → other r) → Calls store told call old new → Calls store other call old new
  calls_weaker told other call old new f h = record {
    premise = h.premise;
    answered = λ c i s.
        let w = h.answered c i s in
        (w.0, record { replied = f _ w.1.replied; follows = w.1.follows; stop = w.1.stop });
  }

pub too_long : (told : Bool) (line : List ℕ) → nat_le (length line) longest_line ≡ false
    → (call_in told line).request ≡ Unreadable Malformed
too_long told line e = ap (λ b. cond b (asked_in (parts_in told line)) (Unreadable Malformed)) e

either_malformed : (b : Bool) → cond b (Unreadable Malformed) (Unreadable Malformed) ≡ Unreadable Malformed
either_malformed true = refl
either_malformed false = refl

-- a line without parts asks nothing
pub without_parts : (told : Bool) (line : List ℕ) → parts_in told line ≡ None
    → (call_in told line).request ≡ Unreadable Malformed
without_parts told line e =
    ap (λ o. cond (nat_le (length line) longest_line) (asked_in o) (Unreadable Malformed)) e
    ∙ either_malformed (nat_le (length line) longest_line)

-- who sends a line is who its parts say
sender_is : (line : List ℕ) (p : Parts) → parts_of_line line ≡ Some p
    → option_and_then (λ f. caller_of f.0) (split_space line) ≡ caller_of p.caller
sender_is line p e = cut (split_space line) e
  where
    made : (f : List ℕ × List ℕ) (o : Option (List ℕ × List ℕ)) → option_map (after_caller f) o ≡ Some p
        → caller_of f.0 ≡ caller_of p.caller
    made f None h = absurd (cc)
    made f (Some s) h =
        let same : after_caller f s ≡ p = cc in ap (λ (q : Parts). caller_of q.caller) same

    cut : (o : Option (List ℕ × List ℕ)) → parts_after o ≡ Some p
        → option_and_then (λ f. caller_of f.0) o ≡ caller_of p.caller
    cut None h = absurd (cc)
    cut (Some f) h = made f (split_space f.1) h

-- also where its first word is told of it
sender_in : (told : Bool) (line : List ℕ) (p : Parts) → parts_in told line ≡ Some p
    → option_and_then (λ f. caller_of f.0) (split_space (line_in told line)) ≡ caller_of p.caller
sender_in false line p e = sender_is line p e
sender_in true line p e = cut (split_space line) e
  where
    behind : (word rest : List ℕ) (o : Option Parts) → parts_of_line rest ≡ o → (b : Bool)
        → cond b (option_map (with_told word) o) None ≡ Some p
        → option_and_then (λ f. caller_of f.0) (split_space rest) ≡ caller_of p.caller
    behind word rest o h false k = absurd (cc)
    behind word rest None h true k = absurd (cc)
    behind word rest (Some q) h true k =
        let same : with_told word q ≡ p = cc in sender_is rest q h ∙ ap (λ (r : Parts). caller_of r.caller) same

    cut : (o : Option (List ℕ × List ℕ)) → option_and_then parts_told o ≡ Some p
        → option_and_then (λ f. caller_of f.0) (split_space (unwrap_or o (line, [])).1) ≡ caller_of p.caller
    cut None h = absurd (cc)
    cut (Some f) h = behind f.0 f.1 (parts_of_line f.1) refl (is_told_word f.0) h

abbrev call_with : Option Caller → Request → Received → Call
call_with caller request received = record { caller = caller; request = request; received = received }

-- the call of a line is that of its parts
pub line_call : (told : Bool) (line : List ℕ) (p : Parts) → nat_le (length line) longest_line ≡ true
    → parts_in told line ≡ Some p → call_in told line ≡ call_of_parts p
line_call told line p short e =
    ap (λ o. call_with o (call_in told line).request (call_in told line).received) (sender_in told line p e)
    ∙ ap (λ b. call_with (caller_of p.caller) (cond b (asked_in (parts_in told line)) (Unreadable Malformed))
    (received_in (parts_in told line))) short
    ∙ ap (λ o. call_with (caller_of p.caller) (asked_in o) (received_in o)) e

-- so is the call of a message
pub message_call : (told : Bool) (m : Message) (p : Parts) → message_parts told m ≡ Some p
    → call_of_message told (Some m) ≡ call_of_parts p
message_call told m p e =
    ap (λ o. call_with (caller_of m.staff) (asked_in o) (received_in o)) e
    ∙ ap (λ o. call_with o (asked_in (Some p)) (received_in (Some p))) (who told e)
  where
    fitting : (q : Parts) (b : Bool) → q.caller ≡ m.staff → cond b (Some q) None ≡ Some p
        → caller_of m.staff ≡ caller_of p.caller
    fitting q true same h =
        let is : q ≡ p = cc in ap caller_of (sym same) ∙ ap (λ (r : Parts). caller_of r.caller) is
    fitting q false same h = absurd (cc)

    said : (o : Option (List ℕ)) → option_and_then (λ text. if_noted (parts_of_message text m)) o ≡ Some p
        → caller_of m.staff ≡ caller_of p.caller
    said None h = absurd (cc)
    said (Some text) h = fitting (parts_of_message text m)
        (may_be_told text && fit_line (parts_of_message text m)) refl h

    who : (t : Bool) → message_parts t m ≡ Some p → caller_of m.staff ≡ caller_of p.caller
    who false h = fitting (parts_of_message [] m) true refl h
    who true h = said m.told h

pub no_parts : (told : Bool) (m : Message) → message_parts told m ≡ None
    → (call_of_message told (Some m)).request ≡ Unreadable Malformed
no_parts told m e = ap asked_in e

pub sent_parts : (p : Parts) (caller : Caller) (request : Request) → Some caller ≡ caller_of p.caller
    → is_token p.method ≡ true → request_of p.method p.path p.body ≡ request
    → call_from caller request (received_in_parts p) ≡ call_of_parts p
sent_parts p caller request c t r =
    ap (λ (x : Option Caller). record { caller = x; request = request; received = received_in_parts p }) c
    ∙ ap (λ (x : Request). record { caller = caller_of p.caller; request = x; received = received_in_parts p }) (sym (
    ap (λ (o : Option Caller). cond (is_some o && is_token p.method) (request_of p.method p.path p.body)
    (Unreadable Malformed)) (sym c)
    ∙ ap (λ (b : Bool). cond b (request_of p.method p.path p.body) (Unreadable Malformed)) t ∙ r
    ))

pub told_as : {S : Type 0} (store : Ghosts S) {T : Type 0} (shows : Reply → Result T Fault → Type 0) (a b : Call)
    (old new : S) (result : Result T Fault) → a ≡ b → Tells store shows (reply a) old new result
    → Tells store shows (reply b) old new result
told_as store shows a b old new result e t = subst (λ (call : Call). Tells store shows (reply call) old new result) e t
