-- Isolation over whole runs.
use Rattle.std.proofs.Common.{◌≡◌, ℕ, Bool, true, false, cond, List, [], ◌∷◌, ◌++◌, Option, Some, None, Err, refl, sym}
use Rattle.std.proofs.Common.{ap, ◌∙◌, arith}
use Rattle.std.specs.Prelude.{◌||◌, is_some, Result}
use Rattle.std.proofs.lemmas.Bool.Decides.{nat_tests}
use Rattle.mf_base.specs.declared.fault.Fault.{Fault}
use Rattle.mf_base.specs.declared.fault.Fault.TheVariants.{F20}
use Rattle.mf_office.specs.declared.caller.Caller.{Caller}
use Rattle.mf_model.specs.Calls.{Call, bare}
use Rattle.mf_model.specs.declared.reply.Reply.{Reply}
use Rattle.mf_model.specs.Institution.{Institution, Change, after, after_maybe, after_line}
use Rattle.mf_model.specs.Tree.{view, touches, IsTree}
use Rattle.mf_model.specs.Desk.{plan, outcome, reply_in, change_in, reply, effect}
use Rattle.mf_model.specs.Run.{Line, change_of_line, answer, next, answers, last, is_of, is_by, from_office}
use Rattle.mf_model.specs.Run.{from_caller, noted_of}
use Rattle.mf_model.specs.Run.{replies_to, is_touched, Touch, touching_list, play_one, play, play_replies, given_up}
use Rattle.mf_model.specs.Run.{but_given_up, NoneGivenUp, Alike}
use Rattle.mf_model.specs.Store.{left_by, left_after}
use Rattle.mf_model.proofs.Views.{outcome_view, view_after, IsTree_after}
use Rattle.mf_model.proofs.Steps.{KnownLine, known_line, effect_view}

kept_change : (b : Bool) (c : Option Change) (change : Change) → cond b None c ≡ Some change → c ≡ Some change
kept_change true c change h = absurd (cc)
kept_change false c change h = h

pub known_of : (l : Line) (i : Institution) (change : Change) → IsTree i.offices → change_of_line l i ≡ Some change
    → KnownLine l.call.caller (plan l.call.request) i change
known_of l i change t h = known_line l.call.caller l.call.request (plan l.call.request) i change t refl
    (kept_change l.given_up (change_in (outcome l.call i)) change h)

pub IsTree_next : (l : Line) (i : Institution) → IsTree i.offices → IsTree (next l i).offices
IsTree_next l i t = step (change_of_line l i) refl
  where
    step : (c : Option Change) → change_of_line l i ≡ c → IsTree (after_line (noted_of l.call i) c i).offices
    step None e = t
    step (Some change) e = IsTree_after change i t (known_of l i change t e).fits

-- an entry of the touching list takes the view along, and any other line leaves it
pub view_next : (o : ℕ) (l : Line) (i : Institution) → IsTree i.offices → (b : Bool)
    → (from_office o l.call || is_touched o i (change_of_line l i)) ≡ b → view o (next l i)
    ≡ cond b (play_one (record { call = bare l.call; accepted = is_some (change_of_line l i) }) (view o i)) (view o i)
view_next o l i t b is = step (change_of_line l i) refl b is
  where
    none : (b : Bool) → view o i ≡ cond b (view o i) (view o i)
    none true = refl
    none false = refl

    goes : (change : Change) → change_of_line l i ≡ Some change → (own now : Bool) → from_office o l.call ≡ own
        → touches o i change ≡ now → (b : Bool) → (own || now) ≡ b → view o (after change i)
        ≡ cond b (after_maybe (effect l.call (view o i)) (view o i)) (view o i)
    goes change e own true oe te b is =
        let k = known_of l i change t e in
        let taken : view o (after change i) ≡ after_maybe (effect l.call (view o i)) (view o i) = view_after o change i
        t k.fits ∙ ap (λ c. cond c (after change (view o i)) (view o i)) te ∙ ap (λ c. after_maybe c (view o i))
        (sym (effect_view o l.call.caller (plan l.call.request) i change k.made_is te)) in
        taken ∙ ap (λ c. cond c (after_maybe (effect l.call (view o i)) (view o i)) (view o i)) (sym (or_true own) ∙ is)
      where
        or_true : (b : Bool) → (b || true) ≡ true
        or_true true = refl
        or_true false = refl
    goes change e true false oe te b is =
        absurd (let k = known_of l i change t e in let both : touches o i change ≡ true = k.touching o oe in cc)
    goes change e false false oe te b is =
        let k = known_of l i change t e in
        view_after o change i t k.fits ∙ ap (λ c. cond c (after change (view o i)) (view o i)) te
        ∙ ap (λ c. cond c (after_maybe (effect l.call (view o i)) (view o i)) (view o i)) is

    step : (c : Option Change) → change_of_line l i ≡ c → (b : Bool) → (from_office o l.call || is_touched o i c) ≡ b
        → view o (after_line (noted_of l.call i) c i)
        ≡ cond b (play_one (record { call = bare l.call; accepted = is_some c }) (view o i))
        (view o i)
    step None e b is = none b
    step (Some change) e b is = goes change e (from_office o l.call) (touches o i change) refl refl b is

-- the view after a run is the touching list played on the first view
pub isolated_view : (o : ℕ) (ls : List Line) (i : Institution) → IsTree i.offices → view o (last ls i)
    ≡ play (touching_list o ls i) (view o i)
isolated_view o [] i t = refl
isolated_view o (l ∷ ls) i t = isolated_view o ls (next l i) (IsTree_next l i t)
    ∙ step (from_office o l.call || is_touched o i (change_of_line l i)) refl
  where
    this : Touch
    this = record { call = bare l.call; accepted = is_some (change_of_line l i) }

    step : (b : Bool) → (from_office o l.call || is_touched o i (change_of_line l i)) ≡ b
        → play (touching_list o ls (next l i)) (view o (next l i))
        ≡ play (cond b (record { call = bare l.call; accepted = is_some (change_of_line l i) }
        ∷ touching_list o ls (next l i))
        (touching_list o ls (next l i))) (view o i)
    step true is = ap (play (touching_list o ls (next l i))) (view_next o l i t true is)
    step false is = ap (play (touching_list o ls (next l i))) (view_next o l i t false is)

reply_view : (o : ℕ) (call : Call) (i : Institution) → IsTree i.offices → from_office o call ≡ true
    → reply call (view o i) ≡ reply call i
reply_view o call i t own = ap reply_in (outcome_view o call i t own)

own_reply : (o : ℕ) (l : Line) (i : Institution) → IsTree i.offices → from_office o l.call ≡ true
    → answer l i ≡ cond l.given_up (Err F20) (reply l.call (view o i))
own_reply o l i t own = ap (cond l.given_up (Err F20)) (sym (reply_view o l.call i t own))

-- calls that are meant are all from office o, and meant whatever their text is
pub record AreFrom (o : ℕ) (meant : Call → Bool) : Type 0 where
  pub own : (call : Call) → meant call ≡ true → from_office o call ≡ true
  pub alike : (call : Call) → meant (bare call) ≡ meant call

listed_where_own : (own now : Bool) → own ≡ true → (own || now) ≡ true
listed_where_own own now e = ap (λ b. b || now) e

replies_step : (o : ℕ) (meant : Call → Bool) (l : Line) (ls : List Line) (i : Institution) → IsTree i.offices
    → (meant l.call ≡ true → from_office o l.call ≡ true) → meant (bare l.call) ≡ meant l.call
    → replies_to meant ls (answers ls (next l i))
    ≡ but_given_up (given_up meant ls) (play_replies meant (touching_list o ls (next l i)) (view o (next l i)))
    → (own listed : Bool) → meant l.call ≡ own → (from_office o l.call || is_touched o i (change_of_line l i)) ≡ listed
    → cond own (answer l i ∷ replies_to meant ls (answers ls (next l i))) (replies_to meant ls (answers ls (next l i)))
    ≡ but_given_up (cond own (l.given_up ∷ given_up meant ls) (given_up meant ls))
    (play_replies meant (cond listed (record { call = bare l.call; accepted = is_some (change_of_line l i) }
    ∷ touching_list o ls (next l i)) (touching_list o ls (next l i))) (view o i))
replies_step o meant l ls i t from alike rest true true me le =
    let this : Touch = record { call = bare l.call; accepted = is_some (change_of_line l i) } in
    let ts = touching_list o ls (next l i) in
    let moved : view o (next l i) ≡ play_one this (view o i) = view_next o l i t true le in
    ap (λ r. r ∷ replies_to meant ls (answers ls (next l i))) (own_reply o l i t (from me))
    ∙ ap (λ rs. cond l.given_up (Err F20) (reply l.call (view o i)) ∷ rs)
    (rest ∙ ap (λ v. but_given_up (given_up meant ls) (play_replies meant ts v)) moved)
    ∙ sym (ap (λ b. but_given_up (l.given_up ∷ given_up meant ls) (cond b (reply l.call (view o i)
    ∷ play_replies meant ts (play_one this (view o i))) (play_replies meant ts (play_one this (view o i)))))
    (alike ∙ me))
replies_step o meant l ls i t from alike rest true false me le =
    absurd (let both : (from_office o l.call || is_touched o i (change_of_line l i)) ≡ true = listed_where_own
    (from_office o l.call) (is_touched o i (change_of_line l i)) (from me) in cc)
replies_step o meant l ls i t from alike rest false true me le =
    let this : Touch = record { call = bare l.call; accepted = is_some (change_of_line l i) } in
    let ts = touching_list o ls (next l i) in
    let moved : view o (next l i) ≡ play_one this (view o i) = view_next o l i t true le in
    rest ∙ ap (λ v. but_given_up (given_up meant ls) (play_replies meant ts v)) moved
    ∙ sym (ap (λ b. but_given_up (given_up meant ls) (cond b (reply l.call (view o i)
    ∷ play_replies meant ts (play_one this (view o i))) (play_replies meant ts (play_one this (view o i)))))
    (alike ∙ me))
replies_step o meant l ls i t from alike rest false false me le =
    rest ∙ ap (λ v. but_given_up (given_up meant ls) (play_replies meant (touching_list o ls (next l i)) v))
    (view_next o l i t false le)

-- the replies to calls from office o are those of the play, but for those given up
pub isolated_replies : (o : ℕ) (meant : Call → Bool) → AreFrom o meant → (ls : List Line) (i : Institution)
    → IsTree i.offices → replies_to meant ls (answers ls i) ≡ but_given_up (given_up meant ls)
    (play_replies meant (touching_list o ls i) (view o i))
isolated_replies o meant from [] i t = refl
isolated_replies o meant from (l ∷ ls) i t = replies_step o meant l ls i t (from.own l.call) (from.alike l.call)
    (isolated_replies o meant from
    ls (next l i) (IsTree_next l i t)) (meant l.call) (from_office o l.call || is_touched o i (change_of_line l i)) refl
    refl

pub office_from : (o : ℕ) → AreFrom o (from_office o)
office_from o = record { own = λ call h. h; alike = λ call. refl }

by_is_of : (c : Caller) (caller : Option Caller) → is_by c caller ≡ true → is_of c.office caller ≡ true
by_is_of c None h = h
by_is_of c (Some d) h = grind (arith, nat_tests)

pub caller_from : (c : Caller) → AreFrom c.office (from_caller c)
caller_from c = record { own = λ call h. by_is_of c call.caller h; alike = λ call. refl }

-- where no line is given up these are all
pub none_given_up : (meant : Call → Bool) (ls : List Line) (rs : List (Result Reply Fault)) → NoneGivenUp ls
    → but_given_up (given_up meant ls) rs ≡ rs
none_given_up meant [] rs h = refl
none_given_up meant (l ∷ ls) rs h = step (meant l.call) rs (λ qs. none_given_up meant ls qs h.1)
  where
    step : (own : Bool) (rs : List (Result Reply Fault)) → ((qs : List (Result Reply Fault))
        → but_given_up (given_up meant ls) qs ≡ qs) → but_given_up (cond own (l.given_up ∷ given_up meant ls)
        (given_up meant ls)) rs ≡ rs
    step false rs k = k rs
    step true [] k = refl
    step true (r ∷ rs) k = ap (λ g. cond g (Err F20) r ∷ but_given_up (given_up meant ls) rs) h.0 ∙ ap (λ qs. r ∷ qs)
        (k rs)

pub all_replies : (o : ℕ) (meant : Call → Bool) → AreFrom o meant → (ls : List Line) (i : Institution)
    → IsTree i.offices → NoneGivenUp ls → replies_to meant ls (answers ls i) ≡ play_replies meant (touching_list o ls i)
    (view o i)
all_replies o meant from ls i t none = isolated_replies o meant from ls i t
    ∙ none_given_up meant ls (play_replies meant (touching_list o ls i) (view o i)) none

pub IsTree_last : (ls : List Line) (i : Institution) → IsTree i.offices → IsTree (last ls i).offices
IsTree_last [] i t = t
IsTree_last (l ∷ ls) i t = IsTree_last ls (next l i) (IsTree_next l i t)

-- two institutions that look alike to an office, and whose runs touch it alike, answer it alike and look alike
-- afterwards
pub same_play : (meant : Call → Bool) (o : ℕ) (i j : Institution) (ls ks : List Line) → Alike o i j ls ks
    → play_replies meant (touching_list o ls i) (view o i) ≡ play_replies meant (touching_list o ks j) (view o j)
same_play meant o i j ls ks a = ap (λ ts. play_replies meant ts (view o i)) a.touching_is
    ∙ ap (play_replies meant (touching_list o ks j)) a.view_is

pub alike_replies : (o : ℕ) (meant : Call → Bool) → AreFrom o meant → (i j : Institution) (ls ks : List Line)
    → IsTree i.offices → IsTree j.offices → Alike o i j ls ks → given_up meant ls ≡ given_up meant ks
    → replies_to meant ls (answers ls i) ≡ replies_to meant ks (answers ks j)
alike_replies o meant from i j ls ks t s a g =
    isolated_replies o meant from ls i t
    ∙ ap (λ gs. but_given_up gs (play_replies meant (touching_list o ls i) (view o i))) g
    ∙ ap (but_given_up (given_up meant ks)) (same_play meant o i j ls ks a)
    ∙ sym (isolated_replies o meant from ks j s)

pub alike_all_replies : (o : ℕ) (meant : Call → Bool) → AreFrom o meant → (i j : Institution) (ls ks : List Line)
    → IsTree i.offices → IsTree j.offices → Alike o i j ls ks → NoneGivenUp ls → NoneGivenUp ks
    → replies_to meant ls (answers ls i) ≡ replies_to meant ks (answers ks j)
alike_all_replies o meant from i j ls ks t s a n m =
    all_replies o meant from ls i t n ∙ same_play meant o i j ls ks a ∙ sym (all_replies o meant from ks j s m)

pub alike_views : (o : ℕ) (i j : Institution) (ls ks : List Line) → IsTree i.offices → IsTree j.offices
    → Alike o i j ls ks → view o (last ls i) ≡ view o (last ks j)
alike_views o i j ls ks t s a =
    isolated_view o ls i t ∙ ap (λ ts. play ts (view o i)) a.touching_is ∙ ap (play (touching_list o ks j)) a.view_is
    ∙ sym (isolated_view o ks j s)

-- one line more
pub answers-push : (ls : List Line) (l : Line) (i : Institution) → answers (ls ++ l ∷ []) i ≡ answers ls i
    ++ answer l (last ls i) ∷ []
answers-push [] l i = refl
answers-push (k ∷ ls) l i = ap (λ rs. answer k i ∷ rs) (answers-push ls l (next k i))

pub last-push : (ls : List Line) (l : Line) (i : Institution) → last (ls ++ l ∷ []) i ≡ next l (last ls i)
last-push [] l i = refl
last-push (k ∷ ls) l i = last-push ls l (next k i)

pub left_after-push : (ls : List Line) (l : Line) (i : Institution) (is : List Institution) → left_after (ls ++ l ∷ [])
    i is ≡ left_by (noted_of l.call (last ls i)) (change_in (outcome l.call (last ls i))) l.given_up (last ls i)
    (left_after ls i is)
left_after-push [] l i is = refl
left_after-push (k ∷ ls) l i is =
    left_after-push ls l (next k i) (left_by (noted_of k.call i) (change_in (outcome k.call i)) k.given_up i is)
