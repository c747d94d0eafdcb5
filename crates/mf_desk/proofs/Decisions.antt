-- A decision after a reading of the store.
use Rattle.std.proofs.Common.{◌≡◌, cond, List, Option, Some, None, Ok, Err, refl, sym, ap, ◌∙◌, subst, inr}
use Rattle.std.specs.Prelude.{◌⊎◌, Result, IfOk, IfErr, option_map}
use Rattle.mf_base.specs.declared.fault.Fault.{Fault}
use Rattle.mf_base.specs.declared.fault.Fault.TheVariants.{F2, F3, F20}
use Rattle.mf_office.specs.declared.staff.Role.{Role}
use Rattle.mf_office.specs.declared.caller.Caller.{Caller}
use Rattle.mf_model.specs.declared.request.Request.{Request}
use Rattle.mf_model.specs.declared.request.Request.TheVariants.{Unreadable}
use Rattle.mf_model.specs.declared.request.Flaw.{Flaw}
use Rattle.mf_desk.specs.declared.decision.Decision.{Decision}
use Rattle.mf_model.specs.Calls.{nothing_received}
use Rattle.mf_model.specs.Institution.{Institution, Staff}
use Rattle.mf_model.specs.Desk.{Plan, plan, need, meets, Outcome, outcome, staff_at, where_permitted, sent_by}
use Rattle.mf_model.specs.Store.{Reads, role_of}
use Rattle.mf_model.specs.declared.store.InstitutionStore.{Ghosts}
use Rattle.mf_desk.specs.Answers.{plan_outcome, request_outcome, decision_outcome, Decides, Asks}
use Rattle.mf_model.specs.Unseen.{call_from}

-- nothing is there where nothing can be
pub none_there : {X : Type 0} (o : Option X) → ((x : X) → o ≡ Some x → ⊥) → o ≡ None
none_there None never = refl
none_there (Some x) never = absurd (never x refl)

module _ {S : Type 0} (store : Ghosts S) where
  -- what is decided after a reading, where the value that was read leads from the one outcome to the other
  pub then_decides : {R : Type 0} (value : Institution → R) (told then_told : Institution → Outcome) (old mid new : S)
      (r : R) (result : Result Decision Fault) → Reads store.stands store.clean store.leaves value old mid (Ok r)
      → ((i : Institution) → r ≡ value i → told i ≡ then_told i) → Decides store then_told mid new result
      → Decides store told old new result
  then_decides value told then_told old mid new r result read leads d = record {
    premise = λ k. read.premise (d.premise k);
    same = λ k i s. d.same k i (read.same (d.premise k) i s);
    decides = λ k i s. subst (λ (o : Outcome). IfOk result (λ x. o ≡ decision_outcome x i))
        (sym (leads i (read.value_is (d.premise k) i s))) (d.decides k i (read.same (d.premise k) i s));
    refuses = λ k i s. subst (λ (o : Outcome). IfErr result (λ fault. (fault ≡ F20) ⊎ (o ≡ Err fault)))
        (sym (leads i (read.value_is (d.premise k) i s))) (d.refuses k i (read.same (d.premise k) i s));
    handed = λ k i s. d.handed k i (read.same (d.premise k) i s);
    stop = λ k is l. d.stop k is (read.stop (d.premise k) is l);
  }

  -- a refusal after a reading
  pub then_refuses : {R : Type 0} (value : Institution → R) (told : Institution → Outcome) (old new : S) (r : R)
      (fault : Fault) → Reads store.stands store.clean store.leaves value old new (Ok r)
      → ((i : Institution) → r ≡ value i → told i ≡ Err fault) → Decides store told old new (Err fault)
  then_refuses value told old new r fault read leads = record {
    premise = read.premise;
    same = read.same;
    decides = λ k i s. tt;
    refuses = λ k i s. inr (leads i (read.value_is k i s));
    handed = λ k i s. tt;
    stop = read.stop;
  }

  -- what is known of the institution after some readings
  pub record Learns (Holds : Institution → Type 0) (old new : S) : Type 0 where
    pub premise : store.clean new → store.clean old
    pub same : store.clean new → (i : Institution) → store.stands old i → store.stands new i
    pub holds : store.clean new → (i : Institution) → store.stands old i → Holds i
    pub stop : store.clean new → (is : List Institution) → store.leaves old is → store.leaves new is

  pub learns : {R : Type 0} (value : Institution → Result R Fault) (old new : S) (r : R)
      → Asks store value old new (Ok r) → Learns (λ i. value i ≡ Ok r) old new
  learns value old new r ask = record { premise = ask.premise; same = ask.same; holds = ask.gives; stop = ask.stop }

  pub learns_both : (P Q : Institution → Type 0) (old mid new : S) → Learns P old mid → Learns Q mid new
      → Learns (λ i. P i × Q i) old new
  learns_both P Q old mid new p q = record {
    premise = λ k. p.premise (q.premise k);
    same = λ k i s. q.same k i (p.same (q.premise k) i s);
    holds = λ k i s. (p.holds (q.premise k) i s, q.holds k i (p.same (q.premise k) i s));
    stop = λ k is l. q.stop k is (p.stop (q.premise k) is l);
  }

  -- what is decided after that
  pub learned_decides : (Holds : Institution → Type 0) (told then_told : Institution → Outcome) (old mid new : S)
      (result : Result Decision Fault) → Learns Holds old mid → ((i : Institution) → Holds i → told i ≡ then_told i)
      → Decides store then_told mid new result → Decides store told old new result
  learned_decides Holds told then_told old mid new result l leads d = record {
    premise = λ k. l.premise (d.premise k);
    same = λ k i s. d.same k i (l.same (d.premise k) i s);
    decides = λ k i s. subst (λ (o : Outcome). IfOk result (λ x. o ≡ decision_outcome x i))
        (sym (leads i (l.holds (d.premise k) i s))) (d.decides k i (l.same (d.premise k) i s));
    refuses = λ k i s. subst (λ (o : Outcome). IfErr result (λ fault. (fault ≡ F20) ⊎ (o ≡ Err fault)))
        (sym (leads i (l.holds (d.premise k) i s))) (d.refuses k i (l.same (d.premise k) i s));
    handed = λ k i s. d.handed k i (l.same (d.premise k) i s);
    stop = λ k is x. d.stop k is (l.stop (d.premise k) is x);
  }

  -- a refusal after that
  pub learned_refuses : (Holds : Institution → Type 0) (told : Institution → Outcome) (old new : S) (fault : Fault)
      → Learns Holds old new → ((i : Institution) → Holds i → (fault ≡ F20) ⊎ (told i ≡ Err fault))
      → Decides store told old new (Err fault)
  learned_refuses Holds told old new fault l leads = record {
    premise = l.premise;
    same = l.same;
    decides = λ k i s. tt;
    refuses = λ k i s. leads i (l.holds k i s);
    handed = λ k i s. tt;
    stop = l.stop;
  }

abbrev pub IsRequest : Request → Type 0
IsRequest request = (flaw : Flaw) → request ≡ Unreadable flaw → ⊥

planned : (request : Request) → IsRequest request → (p : Plan) × (plan request ≡ Ok p)
planned (Unreadable flaw) h = absurd (h flaw refl)
planned _ h = (_, refl)

permitted_none : (c : Caller) (request : Request) (p : Plan) (s : Option Staff) (i : Institution)
    → None ≡ option_map (λ (t : Staff). t.role) s → where_permitted c request p s i ≡ Err F2
permitted_none c request p None i h = refl
permitted_none c request p (Some s) i h = absurd (cc)

permitted_some : (c : Caller) (request : Request) (p : Plan) (s : Option Staff) (role : Role) (i : Institution)
    → Some role ≡ option_map (λ (t : Staff). t.role) s → where_permitted c request p s i
    ≡ cond (meets (need request) role c.office) (plan_outcome (Ok p) c i) (Err F3)
permitted_some c request p None role i h = absurd (cc)
permitted_some c request p (Some s) role i h = let e : s.role ≡ role =
    cc in ap (λ r. cond (meets (need request) r c.office) (plan_outcome (Ok p) c i) (Err F3)) e

-- an unknown caller
pub sent_unknown : (c : Caller) (request : Request) (i : Institution) → IsRequest request → None ≡ role_of c i
    → outcome (call_from c request nothing_received) i ≡ Err F2
sent_unknown c request i h s =
    let w = planned request h in
    ap (λ p. sent_by (Some c) request p i) w.1 ∙ permitted_none c request w.0 (staff_at i c) i s

-- a known one
pub sent_known : (c : Caller) (request : Request) (role : Role) (i : Institution) → IsRequest request
    → Some role ≡ role_of c i → outcome (call_from c request nothing_received) i
    ≡ cond (meets (need request) role c.office) (request_outcome c request i) (Err F3)
sent_known c request role i h s =
    let w = planned request h in
    ap (λ p. sent_by (Some c) request p i) w.1 ∙ permitted_some c request w.0 (staff_at i c) role i s
    ∙ ap (λ p. cond (meets (need request) role c.office) (plan_outcome p c i) (Err F3)) (sym w.1)
