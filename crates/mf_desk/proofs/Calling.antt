-- From what the desk says of an answer to a line of a run.
use Rattle.std.proofs.Common.{◌≡◌, inl, inr, Bool, true, false, List, ◌∷◌, Option, Some, None, Result, Ok, Err, refl}
use Rattle.std.proofs.Common.{sym, subst}
use Rattle.mf_base.specs.declared.fault.Fault.{Fault}
use Rattle.mf_base.specs.declared.fault.Fault.TheVariants.{F20}
use Rattle.mf_model.specs.Calls.{Call}
use Rattle.mf_model.specs.declared.reply.Reply.{Reply}
use Rattle.mf_model.specs.Institution.{Institution, Change, Noted, after_line, after_noted}
use Rattle.mf_model.specs.Run.{noted_of}
use Rattle.mf_model.specs.Desk.{Outcome, outcome, reply, reply_in, change_in}
use Rattle.mf_model.specs.Store.{left_by}
use Rattle.mf_model.specs.declared.store.InstitutionStore.{Ghosts}
use Rattle.mf_desk.specs.Answers.{Tells, Changes}
use Rattle.mf_desk.specs.Runs.{AnswersLine, Calls}

refused_keeps : (o : Outcome) (f : Fault) → reply_in o ≡ Err f → change_in o ≡ None
refused_keeps (Err e) f h = refl
refused_keeps (Ok p) f h = absurd (cc)

module _ {S : Type 0} (store : Ghosts S) where
  -- The answer of the desk, told of a line. What shows a reply refuses it only where it is out of memory.
  pub told_of_answer : {T : Type 0} (shows : Reply → Result T Fault → Type 0) (told : Result Reply Fault → Type 0)
      (call : Call) (old new : S) (result : Result T Fault)
      → ((t : T) (r : Reply) → result ≡ Ok t → shows r (Ok t) → told (Ok r)) → ((f : Fault) → result ≡ Err f
      → told (Err f)) → ((r : Reply) (f : Fault) → shows r (Err f) → f ≡ F20)
      → Tells store shows (reply call) old new result → Changes store {T = T} call old new result
      → Calls store told call old new
  told_of_answer {T = T} shows told call old new (Ok t) ok err f20 s a = record {
    premise = a.premise;
    answered = λ c i h. let w = s.shown c i h in (
      false,
      record {
        replied = subst told (sym w.1) (ok t w.0 refl w.2);
        follows = a.made c i h;
        stop = λ is l. a.stop c i is h l;
      },
    );
  }
  told_of_answer {T = T} shows told call old new (Err f) ok err f20 s a = record {
    premise = a.premise;
    answered = λ c i h. elim (s.refused c i h) [
      | inl e ↦ given c i h e
      | inr w ↦ elim w [
        | inl e ↦ refused c i h e
        | inr v ↦ given c i h (f20 v.0 f v.2)
      ]
    ];
  }
    where
      given : (c : store.clean new) (i : Institution) (h : store.stands old i) → f ≡ F20 → (given_up : Bool)
          × AnswersLine store told (record { call = call; given_up = given_up }) i old new
      given c i h e = (
        true,
        record {
          replied = subst (λ (x : Fault). told (Err x)) e (err f refl);
          follows = a.same c i h;
          stop = λ is l. a.stop_refused c i is h l;
        },
      )

      refused : (c : store.clean new) (i : Institution) (h : store.stands old i) → reply call i ≡ Err f
          → (given_up : Bool) × AnswersLine store told (record { call = call; given_up = given_up }) i old new
      refused c i h r =
          let none : change_in (outcome call i) ≡ None = refused_keeps (outcome call i) f r in (
            false,
            record {
              replied = subst told (sym r) (err f refl);
              follows = subst (λ (k : Option Change). store.stands new (after_line (noted_of call i) k i)) (sym none)
                  (a.same c i h);
              stop = λ is l. subst (λ (k : Option Change). store.leaves new (left_by (noted_of call i) k false i is))
                  (sym none)
                  (subst (λ (k : Option Change). store.leaves new (left_by (noted_of call i) k true i is)) none
                  (a.stop_refused c i is h l));
            },
          )

  -- a call that was given up before anything was looked at
  pub told_given_up : (told : Result Reply Fault → Type 0) (call : Call) (s : S)
      → ((i : Institution) (is : List Institution) → store.leaves s is → store.leaves s (i ∷ is)) → told (Err F20)
      → Calls store told call s s
  told_given_up told call s more t = record {
    premise = λ c. c;
    answered = λ c i h. (
      true,
      record {
        replied = t;
        follows = h;
        stop = λ is l. left (noted_of call i) (change_in (outcome call i)) i is l;
      },
    );
  }
    where
      left : (noted : Noted) (change : Option Change) (i : Institution) (is : List Institution) → store.leaves s is
          → store.leaves s (left_by noted change true i is)
      left noted None i is l = l
      left noted (Some change) i is l = more (after_noted noted change i) is l
