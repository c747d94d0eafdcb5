-- A line plays in one way, or stops for one thing.
use Rattle.std.proofs.Common.{◌≡◌, ◌≢◌, ◌⊎◌, inl, inr, ℕ, Bool, true, false, cond, Option, Some, None, Ok, Err, refl}
use Rattle.std.proofs.Common.{sym, ap, ap₂, ◌∙◌}
use Rattle.std.specs.Prelude.{◌==◌, ◌&&◌}
use Rattle.std.proofs.lemmas.Bool.{and_parts, eq-eqb, ne_eqb, eqb-true, cases_eq}
use Rattle.mf_model.specs.Calls.{Call}
use Rattle.mf_model.specs.Desk.{Outcome, outcome, reply_in, change_in}
use Rattle.mf_model.specs.Institution.{Institution, Change, JournalLine, after_noted}
use Rattle.mf_model.specs.Names.{names_in}
use Rattle.mf_model.specs.Run.{named_by, noted_of}
use Rattle.mf_model.specs.declared.reply.Names.{Names}
use Rattle.mf_play.specs.declared.stop.Stop.{Stop}
use Rattle.mf_play.specs.declared.stop.Stop.TheVariants.{NoRequest, OtherDay, Refused, ChangesNothing, NamesOther}
use Rattle.mf_play.specs.Play.{call_told, names_told, IsPlayed, StopsFor}

-- the names are the same
abbrev same_names : Names → Names → Bool
same_names n m = (n.office == m.office) && (n.loan == m.loan)

are_same : (n m : Names) → n ≡ m → same_names n m ≡ true
are_same n m e =
    let office = eq-eqb n.office m.office (ap (λ (x : Names). x.office) e) in
    let loan = eq-eqb n.loan m.loan (ap (λ (x : Names). x.loan) e) in
    ap₂ (λ a b. a && b) office loan

one_name : (n m : Names) → same_names n m ≡ true → n ≡ m
one_name n m h =
    let both = and_parts (n.office == m.office) (n.loan == m.loan) h in
    ap₂ (λ (office loan : ℕ). record { office = office; loan = loan }) (eqb-true n.office m.office both.0)
    (eqb-true n.loan m.loan both.1)

are_other : (n m : Names) → n ≢ m → same_names n m ≡ false
are_other n m h = at (same_names n m) refl
  where
    at : (b : Bool) → same_names n m ≡ b → b ≡ false
    at true e = absurd (h (one_name n m e))
    at false e = refl

-- why a line doesn't play, if it doesn't: by what its request comes to
abbrev stop_by_outcome : Names → Outcome → Option Stop
stop_by_outcome names (Err fault) = Some Refused
stop_by_outcome names (Ok (r, None)) = Some ChangesNothing
stop_by_outcome names (Ok (r, Some change)) = cond (same_names names (names_in r)) None (Some NamesOther)

abbrev stop_by_call : Institution → JournalLine → Option Call → Option Stop
stop_by_call i l None = Some NoRequest
stop_by_call i l (Some call) =
    cond (l.day == i.catalogue.day) (stop_by_outcome (names_told l) (outcome call i)) (Some OtherDay)

abbrev stop_of : Institution → JournalLine → Option Stop
stop_of i l = stop_by_call i l (call_told l)

-- a request that is accepted and changes something stops or not by what its reply names
accepted_stops : (names : Names) (o : Outcome) (change : Change) → change_in o ≡ Some change
    → stop_by_outcome names o ≡ cond (same_names names (named_by (reply_in o))) None (Some NamesOther)
accepted_stops names (Err fault) change e = absurd (cc)
accepted_stops names (Ok (r, None)) change e = absurd (cc)
accepted_stops names (Ok (r, Some c)) change e = refl

-- on the business day it is what the request comes to
on_the_day : (i : Institution) (l : JournalLine) (call : Call) → call_told l ≡ Some call → l.day ≡ i.catalogue.day
    → stop_of i l ≡ stop_by_outcome (names_told l) (outcome call i)
on_the_day i l call told day =
    ap (stop_by_call i l) told
    ∙ ap (λ b. cond b (stop_by_outcome (names_told l) (outcome call i)) (Some OtherDay))
    (eq-eqb l.day i.catalogue.day day)

stops_so : (i : Institution) (l : JournalLine) (why : Stop) → StopsFor i l why → stop_of i l ≡ Some why
stops_so i l NoRequest s = ap (stop_by_call i l) s
stops_so i l OtherDay s =
    ap (stop_by_call i l) s.1
    ∙ ap (λ b. cond b (stop_by_outcome (names_told l) (outcome s.0 i)) (Some OtherDay))
    (ne_eqb l.day i.catalogue.day s.2)
stops_so i l Refused s = on_the_day i l s.0 s.1.0 s.1.1 ∙ ap (stop_by_outcome (names_told l)) s.3
stops_so i l ChangesNothing s = on_the_day i l s.0 s.1.0 s.1.1 ∙ ap (stop_by_outcome (names_told l)) s.3
stops_so i l NamesOther s =
    on_the_day i l s.0 s.1.0 s.1.1 ∙ accepted_stops (names_told l) (outcome s.0 i) s.2 s.3
    ∙ ap (λ b. cond b None (Some NamesOther))
    (are_other (names_told l) (named_by (reply_in (outcome s.0 i))) s.4)

plays_so : (i j : Institution) (l : JournalLine) → IsPlayed i l j → stop_of i l ≡ None
plays_so i j l p =
    on_the_day i l p.call p.told p.day ∙ accepted_stops (names_told l) (outcome p.call i) p.change p.accepted
    ∙ ap (λ b. cond b None (Some NamesOther))
    (are_same (names_told l) (named_by (reply_in (outcome p.call i))) p.names)

-- a line stops for one thing
pub one_stop : (i : Institution) (l : JournalLine) (why because : Stop) → StopsFor i l why → StopsFor i l because
    → why ≡ because
one_stop i l why because s t =
    let both : Some why ≡ Some because = sym (stops_so i l why s) ∙ stops_so i l because t in cc

-- and then it doesn't play
pub not_both : (i j : Institution) (l : JournalLine) (why : Stop) → IsPlayed i l j → StopsFor i l why → ⊥
not_both i j l why p s =
    let both : None ≡ Some why = sym (plays_so i j l p) ∙ stops_so i l why s in cc

-- it plays to one institution
pub one_next : (i j k : Institution) (l : JournalLine) → IsPlayed i l j → IsPlayed i l k → j ≡ k
one_next i j k l p q =
    let told : Some p.call ≡ Some q.call = sym p.told ∙ q.told in
    let call : p.call ≡ q.call = cc in
    let changed : Some p.change ≡ Some q.change = sym p.accepted ∙ ap (λ c. change_in (outcome c i)) call
    ∙ q.accepted in
    let change : p.change ≡ q.change = cc in
    p.follows ∙ ap (λ c. after_noted (noted_of c i) p.change i) call
    ∙ ap (λ x. after_noted (noted_of q.call i) x i) change ∙ sym q.follows

-- it plays or stops
abbrev pub Judged : Institution → JournalLine → Type 0
Judged i l = ((j : Institution) × IsPlayed i l j) ⊎ ((why : Stop) × StopsFor i l why)

by_names : (i : Institution) (l : JournalLine) (call : Call) → call_told l ≡ Some call → l.day ≡ i.catalogue.day
    → (change : Change) → change_in (outcome call i) ≡ Some change → (b : Bool)
    → same_names (names_told l) (named_by (reply_in (outcome call i))) ≡ b → Judged i l
by_names i l call told day change accepted true e = inl (
  after_noted (noted_of call i) change i,
  record {
    call = call;
    told = told;
    day = day;
    change = change;
    accepted = accepted;
    names = one_name (names_told l) (named_by (reply_in (outcome call i))) e;
    follows = refl;
  },
)
by_names i l call told day change accepted false e =
    inr (NamesOther, (call, (told, day), change, accepted, λ same. differ same))
  where
    differ : names_told l ≡ named_by (reply_in (outcome call i)) → ⊥
    differ same =
        let is = are_same (names_told l) (named_by (reply_in (outcome call i))) same in
        let both : true ≡ false = sym is ∙ e in cc

by_outcome : (i : Institution) (l : JournalLine) (call : Call) → call_told l ≡ Some call → l.day ≡ i.catalogue.day
    → (o : Outcome) → outcome call i ≡ o → Judged i l
by_outcome i l call told day (Err fault) e = inr (Refused, (call, (told, day), fault, e))
by_outcome i l call told day (Ok (r, None)) e = inr (ChangesNothing, (call, (told, day), r, e))
by_outcome i l call told day (Ok (r, Some change)) e = by_names i l call told day change (ap change_in e)
    (same_names (names_told l) (named_by (reply_in (outcome call i)))) refl

by_day : (i : Institution) (l : JournalLine) (call : Call) → call_told l ≡ Some call
    → (l.day ≡ i.catalogue.day) ⊎ (l.day ≢ i.catalogue.day) → Judged i l
by_day i l call told (inl day) = by_outcome i l call told day (outcome call i) refl
by_day i l call told (inr other) = inr (OtherDay, (call, told, other))

pub judged : (i : Institution) (l : JournalLine) → Judged i l
judged i l = at (call_told l) refl
  where
    at : (o : Option Call) → call_told l ≡ o → Judged i l
    at None e = inr (NoRequest, e)
    at (Some call) e = by_day i l call e (cases_eq l.day i.catalogue.day)
