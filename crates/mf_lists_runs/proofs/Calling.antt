-- From what the desk or the lists answered to a line of a run.
use Rattle.std.proofs.Common.{◌≡◌, inl, inr, ℕ, Bool, true, false, cond, List, ◌∷◌, Option, Some, None, Result, Ok, Err}
use Rattle.std.proofs.Common.{refl, sym, ap, ◌∙◌, subst}
use Rattle.std.specs.Prelude.{◌⊎◌, ◌&&◌, not, is_some, IfOk, IfErr}
use Rattle.mf_base.specs.declared.fault.Fault.{Fault}
use Rattle.mf_base.specs.declared.fault.Fault.TheVariants.{F5, F20}
use Rattle.mf_lists.specs.declared.answer.ListAnswer.{ListAnswer}
use Rattle.mf_lists_desk.specs.Readings.{AnswersBy}
use Rattle.mf_model.specs.Calls.{Call}
use Rattle.mf_model.specs.Desk.{outcome, change_in}
use Rattle.mf_model.specs.declared.reply.Reply.{Reply}
use Rattle.mf_model.specs.declared.request.Flaw.TheVariants.{Malformed, NoRoute, NoMethod}
use Rattle.mf_model.specs.declared.request.Request.{Request}
use Rattle.mf_model.specs.declared.request.Request.TheVariants.{Unreadable, Catalogue, Office, Loan, SeenOffices}
use Rattle.mf_model.specs.declared.request.Request.TheVariants.{SeenArrears, NewOffice}
use Rattle.mf_model.specs.Institution.{Institution, Change, Noted, after_line, after_noted}
use Rattle.mf_model.specs.Run.{noted_of}
use Rattle.mf_model.specs.Store.{left_by}
use Rattle.mf_model.specs.declared.store.InstitutionStore.{Ghosts}
use Rattle.mf_office.specs.declared.caller.Caller.{Caller}
use Rattle.mf_office.specs.Texts.{caller_of}
use Rattle.mf_lists_wire.specs.Paths.{behind_lists}
use Rattle.mf_wire_requests.specs.RequestLine.{Parts, is_token}
use Rattle.mf_wire_requests.specs.Requests.{call_of_parts, request_of}
use Rattle.mf_wire_requests.specs.Routes.{route_at}
use Rattle.mf_wire_requests.proofs.Asking as asking
use Rattle.mf_desk.specs.Runs.{AnswersLine, Calls}
use Rattle.mf_lists_runs.specs.Choice.{Choice, Told, asks_list, is_no_route, is_listed_path, list_asked, list_told}
use Rattle.mf_lists_runs.specs.Choice.{choice_if, list_told_to, told_of, with_list}
use Rattle.mf_lists_runs.specs.Runs.{CallsWith}

-- a list may be asked for, and the call asks for one
abbrev pub asks : Choice → Call → Bool
asks None call = false
asks (Some folded) call = asks_list call

-- with lists or without, what asks for no list gets none
pub asks_where : (choice : Choice) (call : Call) → asks_list call ≡ false → asks choice call ≡ false
asks_where None call e = refl
asks_where (Some folded) call e = e

and_first : (a b : Bool) → (a && b) ≡ true → a ≡ true
and_first true b e = refl
and_first false b e = absurd (cc)

and_second : (a b : Bool) → (a && b) ≡ true → b ≡ true
and_second true b e = e
and_second false b e = absurd (cc)

and_false : (a : Bool) → (a && false) ≡ false
and_false true = refl
and_false false = refl

no_route : (r : Request) → is_no_route r ≡ true → r ≡ Unreadable NoRoute
no_route (Unreadable NoRoute) e = refl
no_route (Unreadable Malformed) e = absurd (cc)
no_route (Unreadable NoMethod) e = absurd (cc)
no_route (Catalogue asked) e = absurd (cc)
no_route (Office office asked) e = absurd (cc)
no_route (Loan loan asked) e = absurd (cc)
no_route SeenOffices e = absurd (cc)
no_route SeenArrears e = absurd (cc)
no_route (NewOffice number parent name) e = absurd (cc)

-- what asks for a list has no route of the desk
pub asks_no_route : (call : Call) → asks_list call ≡ true → call.request ≡ Unreadable NoRoute
asks_no_route call e = no_route call.request (and_second (is_some call.caller) (is_no_route call.request)
    (and_first (is_some call.caller && is_no_route call.request) (is_listed_path call.received.path) e))

-- a request that has another flaw asks for no list
pub other_flaw : (call : Call) → is_no_route call.request ≡ false → asks_list call ≡ false
other_flaw call e =
    ap (λ b. (is_some call.caller && b) && is_listed_path call.received.path) e
    ∙ ap (λ b. b && is_listed_path call.received.path) (and_false (is_some call.caller))

-- so its change is none
no_change : (call : Call) (i : Institution) → asks_list call ≡ true → outcome call i ≡ Err F5
no_change call i e = ap (λ (r : Request). outcome (record {
  caller = call.caller;
  request = r;
  received = call.received;
}) i) (asks_no_route call e)

-- where no list is asked for the desk's reply stands
pub plain_is : (choice : Choice) (call : Call) (g : Bool) (i : Institution) (r : Result Reply Fault)
    → asks choice call ≡ false → with_list choice (record { call = call; given_up = g }) i r ≡ inl r
plain_is None call g i r e = refl
plain_is (Some folded) call g i r e =
    let listed = list_told_to folded call.caller (list_asked call.received) i in
    ap (λ b. cond (not g && b) (inr listed) (inl r)) e
    ∙ ap (λ b. cond b (inr listed) (inl r)) (and_false (not g))

module _ {S : Type 0} (store : Ghosts S) where
  -- what the desk answered, where no list is asked for
  pub plain_calls : (choice : Choice) (told : Told → Type 0) (call : Call) (old new : S) → asks choice call ≡ false
      → Calls store (λ r. told (inl r)) call old new → CallsWith store choice told call old new
  plain_calls choice told call old new e h = record {
    premise = h.premise;
    answered = λ c i s. let w = h.answered c i s in (
      w.0,
      record {
        replied = subst told (sym (plain_is choice call w.0 i _ e)) w.1.replied;
        follows = w.1.follows;
        stop = w.1.stop;
      },
    );
  }

  -- a call that was given up before anything was looked at
  pub given_up_calls : (choice : Choice) (told : Told → Type 0) (call : Call) (s : S)
      → ((i : Institution) (is : List Institution) → store.leaves s is → store.leaves s (i ∷ is))
      → told (inl (Err F20)) → CallsWith store choice told call s s
  given_up_calls choice told call s more t = record {
    premise = λ c. c;
    answered = λ c i h. (
      true,
      record {
        replied = given choice i;
        follows = h;
        stop = λ is l. left (noted_of call i) (change_in (outcome call i)) i is l;
      },
    );
  }
    where
      given : (choice : Choice) (i : Institution) → told (with_list choice (record { call = call; given_up = true }) i
          (Err F20))
      given None i = t
      given (Some folded) i = t

      left : (noted : Noted) (change : Option Change) (i : Institution) (is : List Institution) → store.leaves s is
          → store.leaves s (left_by noted change true i is)
      left noted None i is l = l
      left noted (Some change) i is l = more (after_noted noted change i) is l

  module _ (folded : List ℕ → List ℕ) (told : Told → Type 0) (call : Call) (caller : Caller) (old new : S)
      (result : Result ListAnswer Fault) (asked : asks_list call ≡ true) (sent : call.caller ≡ Some caller)
      (answered : AnswersBy store (list_told folded caller (list_asked call.received)) old new result) where
    abbrev listed : Institution → Result ListAnswer Fault
    listed i = list_told folded caller (list_asked call.received) i

    -- the line of the list, which was not given up
    list_is : (i : Institution) (r : Result Reply Fault) → with_list (Some folded) (record {
      call = call;
      given_up = false;
    }) i r ≡ inr (listed i)
    list_is i r = ap (λ b. cond b (inr (list_told_to folded call.caller (list_asked call.received) i)) (inl r)) asked
        ∙ ap (λ o. inr (list_told_to folded o (list_asked call.received) i)) sent

    -- a line that changes nothing
    line : (g : Bool) (i : Institution) → store.clean new → store.stands old i
        → told (told_of (Some folded) (record { call = call; given_up = g }) i)
        → AnswersLine store (λ r. told (with_list (Some folded) (record { call = call; given_up = g }) i r))
        (record { call = call; given_up = g }) i old new
    line g i c s t =
        let none : change_in (outcome call i) ≡ None = ap change_in (no_change call i asked) in
        let kept : (g : Bool) → cond g None (change_in (outcome call i)) ≡ None = either none in record {
          replied = t;
          follows = subst (λ (k : Option Change). store.stands new (after_line (noted_of call i) k i)) (sym (kept g))
              (answered.same c i s);
          stop = λ is l. subst (λ (k : Option Change). store.leaves new (left_by (noted_of call i) k g i is))
              (sym none) (answered.stop c is l);
        }
      where
        either : {k : Option Change} → k ≡ None → (g : Bool) → cond g None k ≡ None
        either e true = refl
        either e false = e

    -- the list was told, or refused
    list_calls : ((i : Institution) → store.clean new → store.stands old i → told (inr (listed i))
        ⊎ told (inl (Err F20))) → CallsWith store (Some folded) told call old new
    list_calls t = record {
      premise = answered.premise;
      answered = λ c i s. elim (t i c s) [
        | inl x ↦ (false, line false i c s (subst told (sym (list_is i _)) x))
        | inr x ↦ (true, line true i c s x)
      ];
    }

    either_told : (i : Institution) (r : Result ListAnswer Fault) → IfOk r (λ a. listed i ≡ Ok a)
        → IfErr r (λ f. (f ≡ F20) ⊎ (listed i ≡ Err f)) → (told (inr (Err F20)) → told (inl (Err F20)))
        → told (inr r) → told (inr (listed i)) ⊎ told (inl (Err F20))
    either_told i (Ok a) e f same t = inl (subst (λ r. told (inr r)) (sym e) t)
    either_told i (Err f) e (inl g) same t = inr (same (subst (λ x. told (inr (Err x))) g t))
    either_told i (Err f) e (inr g) same t = inl (subst (λ r. told (inr r)) (sym g) t)

    -- what was made of the list was told, or F20
    pub list_answered : told (inr result) ⊎ told (inl (Err F20)) → (told (inr (Err F20)) → told (inl (Err F20)))
        → CallsWith store (Some folded) told call old new
    list_answered (inl t) same =
        list_calls (λ i c s. either_told i result (answered.gives c i s) (answered.refuses c i s) same t)
    list_answered (inr t) same = list_calls (λ i c s. inr t)

-- which caller asks the lists, by what was looked at of a request
general : (o : Option Caller) (t l : Bool) (r : Request) → (l ≡ true → r ≡ Unreadable NoRoute)
    → cond ((is_some o && is_no_route (cond (is_some o && t) r (Unreadable Malformed))) && l) o None
    ≡ cond (t && l) o None
general None true true r h = refl
general None true false r h = refl
general None false l r h = refl
general (Some c) true true r h = ap (λ x. cond (is_no_route x && true) (Some c) None) (h refl)
general (Some c) true false r h = ap (λ b. cond b (Some c) None) (and_false (is_no_route r))
general (Some c) false l r h = refl

not_there : {X : Type 0} (o : Option X) → not (is_some o) ≡ true → None ≡ o
not_there None e = refl
not_there (Some x) e = absurd (cc)

pub caller_is : (p : Parts) (b : Bool) → (is_token p.method && is_listed_path p.path) ≡ b
    → cond (asks_list (call_of_parts p)) (caller_of p.caller) None ≡ cond b (caller_of p.caller) None
caller_is p b e =
    general (caller_of p.caller) (is_token p.method) (is_listed_path p.path) (request_of p.method p.path p.body)
    (λ l. asking.no_route p.method p.path p.body (not_there (route_at p.path)
    (and_first (not (is_some (route_at p.path))) (is_some (behind_lists p.path)) l)))
    ∙ ap (λ x. cond x (caller_of p.caller) None) e

none_where : (call : Call) (b : Bool) → asks_list call ≡ b → cond b call.caller None ≡ None → b ≡ false
none_where call false e h = refl
none_where call true e h = absurd (let there : is_some call.caller ≡ true = and_first (is_some call.caller)
    (is_no_route call.request) (and_first (is_some call.caller && is_no_route call.request)
    (is_listed_path call.received.path) e) in cc)

-- where nobody asks the lists they aren't asked
pub none_asked : (call : Call) → cond (asks_list call) call.caller None ≡ None → asks_list call ≡ false
none_asked call h = none_where call (asks_list call) refl h

some_where : (b : Bool) (o : Option Caller) (c : Caller) → cond b o None ≡ Some c → (b ≡ true) × (o ≡ Some c)
some_where true o c h = (refl, h)
some_where false o c h = absurd (cc)

pub some_asked : (call : Call) (c : Caller) → cond (asks_list call) call.caller None ≡ Some c
    → (asks_list call ≡ true) × (call.caller ≡ Some c)
some_asked call c h = some_where (asks_list call) call.caller c h

-- without lists nothing asks for one
pub asks_nothing : (folded : List ℕ → List ℕ) (there : Bool) (call : Call) → there ≡ false
    → asks (choice_if folded there) call ≡ false
asks_nothing folded there call e = ap (λ b. asks (choice_if folded b) call) e

-- the same of whether there are lists
pub asks_unless : (folded : List ℕ → List ℕ) (there : Bool) (call : Call)
    → (there ≡ true → asks_list call ≡ false) → asks (choice_if folded there) call ≡ false
asks_unless folded true call h = h refl
asks_unless folded false call h = refl
