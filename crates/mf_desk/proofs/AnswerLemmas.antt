-- What is decided is shown, and then made.
use Rattle.std.proofs.Common.{◌≡◌, ℕ, true, false, List, ◌∷◌, Option, Some, None, Ok, Err, refl, sym, ap, ◌∙◌, subst}
use Rattle.std.specs.Prelude.{Result, IfOk, IfErr, IfSome, ◌⊎◌, option_map}
use Rattle.std.proofs.lemmas.Bool.{eq-eqb}
use Rattle.mf_office.specs.declared.caller.Caller.{Caller}
use Rattle.mf_base.specs.declared.fault.Fault.{Fault}
use Rattle.mf_base.specs.declared.fault.Fault.TheVariants.{F20}
use Rattle.mf_model.specs.Calls.{Received, Call, nothing_received}
use Rattle.mf_model.specs.Names.{names_in}
use Rattle.mf_model.specs.declared.reply.Names.{Names}
use Rattle.mf_model.specs.declared.request.Request.{Request}
use Rattle.mf_model.specs.declared.reply.Reply.{Reply}
use Rattle.mf_model.specs.declared.commit.Commit.{Commit}
use Rattle.mf_desk.specs.declared.decision.Decision.{Decision}
use Rattle.mf_model.specs.Institution.{Institution, Change, Noted, after, after_line, after_noted}
use Rattle.mf_model.specs.Desk.{outcome, reply_in, change_in, reply}
use Rattle.mf_model.specs.Sound.{IsSound, IsInRange}
use Rattle.mf_model.specs.Tree.{IsTree, view}
use Rattle.mf_model.specs.Run.{from_office, noted_of, named_by}
use Rattle.mf_model.specs.Store.{Commits, IsAdmitted, IsHanded, change_of, left_by}
use Rattle.mf_model.specs.declared.store.InstitutionStore.{Ghosts}
use Rattle.mf_desk.specs.Answers.{Decides, Tells, Changes, decision_outcome}
use Rattle.mf_model.specs.Unseen.{call_from}

-- what a caller is answered is read off what its office sees
abbrev pub IsAnsweredByView : Type 0
IsAnsweredByView = (o : ℕ) (call : Call) (i : Institution) → IsTree i.offices → from_office o call ≡ true
    → outcome call (view o i) ≡ outcome call i

-- an accepted request leaves a sound institution
abbrev pub KeepsSound : Type 0
KeepsSound = (call : Call) (i : Institution) (change : Change) → IsSound i → IsInRange call.request
    → change_in (outcome call i) ≡ Some change → IsSound (after change i)

its_change : (call : Call) (d : Decision) (commit : Commit) (i : Institution) → d.commit ≡ Some commit → outcome call i
    ≡ decision_outcome d i → change_in (outcome call i) ≡ Some (change_of commit i)
its_change call d commit i e h = ap change_in h ∙ ap (option_map (λ (c : Commit). change_of c i)) e

-- what is noted of a call whose reply names these
abbrev pub noted_with : Call → Names → Noted
noted_with call names = record { caller = call.caller; received = call.received; names = names }

its_note : (call : Call) (d : Decision) (noted : Noted) (i : Institution)
    → noted ≡ noted_with call (names_in d.reply) → outcome call i ≡ decision_outcome d i → noted_of call i ≡ noted
its_note call d noted i note_is h = ap (λ o. noted_with call (named_by (reply_in o))) h ∙ sym note_is

admitted : (call : Call) (d : Decision) (commit : Commit) (i : Institution) → KeepsSound → IsSound i
    → IsInRange call.request → d.commit ≡ Some commit → change_in (outcome call i) ≡ Some (change_of commit i)
    → IfSome d.commit (λ c. IsHanded c i) → IsAdmitted commit i
admitted call d commit i keeps sound r e change handed = record {
  sound = keeps call i (change_of commit i) sound r change;
  handed = subst (λ (o : Option Commit). IfSome o (λ c. IsHanded c i)) e handed;
}

module _ {S : Type 0} (store : Ghosts S) where
  -- a refusal changes nothing
  pub refusal_changes_nothing : {T : Type 0} (call : Call) (result : Result Decision Fault) (old new : S)
      (fault : Fault) → ((s : S) (i : Institution) (is : List Institution) → store.leaves s is → store.leaves s (i
      ∷ is)) → Decides store (outcome call) old new result → Changes store {T = T} call old new (Err fault)
  refusal_changes_nothing call result old new fault more decides = record {
    premise = decides.premise;
    made = λ k i s. tt;
    same = decides.same;
    stop = λ k i is s l. tt;
    stop_refused = λ k i is s l. either (change_in (outcome call i)) i is (decides.stop k is l);
  }
    where
      either : (c : Option Change) (i : Institution) (is : List Institution) → store.leaves new is
          → store.leaves new (left_by (noted_of call i) c true i is)
      either None i is l = l
      either (Some change) i is l = more new (after_noted (noted_of call i) change i) is l

  -- a write is made
  pub changes_made : {T : Type 0} (call : Call) (d : Decision) (commit : Commit) (noted : Noted) (old mid new : S)
      (t : T)
      → KeepsSound
      → ((s : S) (i : Institution) → store.stands s i → IsSound i) → IsInRange call.request → d.commit ≡ Some commit
      → Decides store (outcome call) old mid (Ok d) → Commits store.stands store.clean store.leaves commit
      noted mid new (Ok tt) → noted ≡ noted_with call (names_in d.reply) → Changes store call old new (Ok t)
  changes_made call d commit noted old mid new t keeps sound r e decides commits note_is =
      let change = λ (k : store.clean mid) (i : Institution) (s : store.stands old i). its_change call d commit i e
      (decides.decides k i s) in
      let note = λ (k : store.clean mid) (i : Institution) (s : store.stands old i). its_note call d noted i note_is
      (decides.decides k i s) in
      let kept = λ (k : store.clean mid) (i : Institution) (s : store.stands old i). admitted call d commit i
      keeps (sound old i s) r e (change k i s) (decides.handed k i s) in
      record {
        premise = λ k. decides.premise (commits.premise k);
        made = λ k i s. subst (λ (n : Noted). store.stands new (after_line n (change_in (outcome call i)) i))
            (sym (note (commits.premise k) i s))
            (subst (λ (c : Option Change). store.stands new (after_line noted c i))
            (sym (change (commits.premise k) i s)) (commits.made k i (decides.same (commits.premise k) i s)
            (kept (commits.premise k) i s)));
        same = λ k i s. tt;
        stop = λ k i is s l. subst (λ (n : Noted). store.leaves new (left_by n (change_in (outcome call i)) false i is))
            (sym (note (commits.premise k) i s))
            (subst (λ (c : Option Change). store.leaves new (left_by noted c false i is))
            (sym (change (commits.premise k) i s)) (commits.kept k i (decides.same (commits.premise k) i s)
            (kept (commits.premise k) i s)));
        stop_refused = λ k i is s l. tt;
      }

  -- a write is given up
  pub changes_given_up : {T : Type 0} (call : Call) (d : Decision) (commit : Commit) (noted : Noted) (old mid new : S)
      (fault : Fault) → KeepsSound → ((s : S) (i : Institution) → store.stands s i → IsSound i) → IsInRange call.request
      → d.commit ≡ Some commit → Decides store (outcome call) old mid (Ok d) → Commits store.stands store.clean
      store.leaves commit noted mid new (Err fault) → noted ≡ noted_with call (names_in d.reply)
      → Changes store {T = T} call old new (Err fault)
  changes_given_up call d commit noted old mid new fault keeps sound r e decides commits note_is =
      let change = λ (k : store.clean mid) (i : Institution) (s : store.stands old i). its_change call d commit i e
      (decides.decides k i s) in
      let note = λ (k : store.clean mid) (i : Institution) (s : store.stands old i). its_note call d noted i note_is
      (decides.decides k i s) in
      let kept = λ (k : store.clean mid) (i : Institution) (s : store.stands old i). admitted call d commit i
      keeps (sound old i s) r e (change k i s) (decides.handed k i s) in
      record {
        premise = λ k. decides.premise (commits.premise k);
        made = λ k i s. tt;
        same = λ k i s. commits.same k i (decides.same (commits.premise k) i s);
        stop = λ k i is s l. tt;
        stop_refused = λ k i is s l.
            subst (λ (n : Noted). store.leaves new (left_by n (change_in (outcome call i)) true i is))
            (sym (note (commits.premise k) i s))
            (subst (λ (c : Option Change). store.leaves new (left_by noted c true i is))
            (sym (change (commits.premise k) i s)) (commits.stop k i is (decides.same (commits.premise k) i s)
            (kept (commits.premise k) i s) (decides.stop (commits.premise k) is l)));
      }

  -- what is told of the institution is told of the caller's own view of it
  pub tells_own_view : {T : Type 0} (shows : Reply → Result T Fault → Type 0) (c : Caller) (request : Request)
      (received : Received) (old new : S) (result : Result T Fault) → IsAnsweredByView
      → ((s : S) (i : Institution) → store.stands s i
      → IsSound i)
      → Tells store shows (reply (call_from c request received)) old new result
      → Tells store shows (λ i. reply (call_from c request received)
      (view c.office i)) old new result
  tells_own_view shows c request received old new result by_view sound tells = record {
    shown = λ k i s. subst (λ (o : Result Reply Fault). IfOk result (λ t. (r : Reply) × (o ≡ Ok r) × shows r (Ok t)))
        (sym (alike i s)) (tells.shown k i s);
    refused = λ k i s. subst (λ (o : Result Reply Fault). IfErr result (λ fault. (fault ≡ F20) ⊎ ((o ≡ Err fault)
        ⊎ ((r : Reply) × (o ≡ Ok r) × shows r (Err fault))))) (sym (alike i s)) (tells.refused k i s);
  }
    where
      alike : (i : Institution) → store.stands old i → reply (call_from c request received) (view c.office i)
          ≡ reply (call_from c request received) i
      alike i s = ap reply_in (by_view c.office (call_from c request received) i (sound old i s).tree
          (eq-eqb c.office c.office refl))

  -- a decision doesn't look at the text of a request
  pub decides_in_any_text : (c : Caller) (request : Request) (received : Received) (old new : S)
      (result : Result Decision Fault) → Decides store (outcome (call_from c request nothing_received)) old new result
      → Decides store (outcome (call_from c request received)) old new result
  decides_in_any_text c request received old new result d = record {
    premise = d.premise;
    same = d.same;
    decides = d.decides;
    refuses = d.refuses;
    handed = d.handed;
    stop = d.stop;
  }
