-- What a run notes plays again, and what plays is noted.
use Rattle.std.proofs.Common.{◌≡◌, Bool, true, false, cond, List, [], ◌∷◌, map, append-nil, append_assoc, Option, Some}
use Rattle.std.proofs.Common.{None, Result, Ok, Err, refl, sym, ap, ap₂, ◌∙◌, subst}
use Rattle.std.specs.Prelude.{◌&&◌, ℕ, nat_le, is_some, option_map, option_and_then, IfSome}
use Rattle.std.proofs.lemmas.Bool.{and_parts, le-leb, leb-true}
use Rattle.mf_base.specs.declared.fault.Fault.{Fault}
use Rattle.mf_base.specs.declared.fault.Fault.TheVariants.{F20}
use Rattle.mf_office.specs.Numbers.{IsNumberUpTo, is_number_up_to}
use Rattle.mf_office.specs.Texts.{IsCaller}
use Rattle.mf_office.specs.declared.caller.Caller.{Caller}
use Rattle.mf_model.specs.Answering.{line_answered}
use Rattle.mf_model.specs.Calls.{Received, Call}
use Rattle.mf_model.specs.Desk.{Plan, plan, sent_by, outcome, reply, change_in}
use Rattle.mf_model.specs.Institution.{Institution, Change, JournalLine, after_noted, after_line, noted_line}
use Rattle.mf_model.specs.Institution.{with_line}
use Rattle.mf_model.specs.Run.{Line, change_of_line, named_by, noted_of, next, last}
use Rattle.mf_model.specs.Unseen.{call_from}
use Rattle.mf_model.specs.declared.reply.Names.{Names}
use Rattle.mf_model.specs.declared.request.Request.{Request}
use Rattle.mf_model.specs.declared.request.Request.TheVariants.{Unreadable}
use Rattle.mf_journal.specs.Journal.{AcceptedWrite, write_of, writes_of, line_of_write, with_lines}
use Rattle.mf_wire_requests.specs.Requests.{request_of}
use Rattle.mf_play.specs.Play.{if_readable, asked_by_text, text_told, call_told}
use Rattle.mf_play.specs.Play.{IsPlayed, PlaysTo, IsAsReceived, AreAsReceived}

-- ---- what plays is noted

-- what can be read can be read again
read_again : (request : Request) → IfSome (if_readable request) (λ r. if_readable r ≡ Some r)
read_again (Unreadable flaw) = tt
read_again _ = refl

numbers : (office staff : ℕ) → (is_number_up_to 9999 office && is_number_up_to 9999 staff) ≡ true
    → IsNumberUpTo 9999 office × IsNumberUpTo 9999 staff
numbers office staff e =
    let both = and_parts (is_number_up_to 9999 office) (is_number_up_to 9999 staff) e in
    (number office both.0, number staff both.1)
  where
    number : (n : ℕ) → is_number_up_to 9999 n ≡ true → IsNumberUpTo 9999 n
    number n h = let both = and_parts (nat_le 1 n) (nat_le n 9999) h in (leb-true 1 n both.0, leb-true n 9999 both.1)

-- what the call that a line tells has of the line
record IsTold (l : JournalLine) (call : Call) : Type 0 where
  pub caller : call.caller ≡ Some (record { office = l.office; staff = l.staff })
  pub received : call.received ≡ text_told l
  pub is : IsAsReceived call

is_told : (l : JournalLine) (call : Call) → call_told l ≡ Some call → IsTold l call
is_told l call e = by (is_number_up_to 9999 l.office && is_number_up_to 9999 l.staff) refl
    (asked_by_text (text_told l)) refl e
  where
    by : (b : Bool) → (is_number_up_to 9999 l.office && is_number_up_to 9999 l.staff) ≡ b → (o : Option Request)
        → asked_by_text (text_told l) ≡ o → option_and_then (λ c. option_map (λ r. call_from c r (text_told l)) o)
        (cond b (Some (record { office = l.office; staff = l.staff })) None) ≡ Some call → IsTold l call
    by false n o a h = absurd (cc)
    by true n None a h = absurd (cc)
    by true n (Some request) a h =
        let told : Call = call_from (record { office = l.office; staff = l.staff }) request (text_told l) in
        let same : told ≡ call = cc in
        let kept : IfSome (Some request) (λ r. if_readable r ≡ Some r) =
        subst (λ o. IfSome o (λ r. if_readable r ≡ Some r)) a
        (read_again (request_of l.method l.path l.body)) in
        let is : IsAsReceived told = record {
          caller = numbers l.office l.staff n;
          request = subst (λ o. IfSome o (λ r. asked_by_text (text_told l) ≡ Some r)) (sym kept) a;
        } in
        record {
          caller = ap (λ (c : Call). c.caller) (sym same);
          received = ap (λ (c : Call). c.received) (sym same);
          is = subst IsAsReceived same is;
        }

-- a line that plays is the one that the journal gets
line_noted : (i j : Institution) (l : JournalLine) (p : IsPlayed i l j)
    → noted_line i.catalogue.day (noted_of p.call i) ≡ l
line_noted i j l p =
    let told = is_told l p.call p.told in
    ap (λ (c : Option Caller). noted_line i.catalogue.day (record {
      caller = c;
      received = p.call.received;
      names = named_by (reply p.call i);
    })) told.caller
    ∙ ap (λ (r : Received). noted_line i.catalogue.day (record {
      caller = Some (record { office = l.office; staff = l.staff });
      received = r;
      names = named_by (reply p.call i);
    })) told.received
    ∙ ap (λ (n : Names). noted_line i.catalogue.day (record {
      caller = Some (record { office = l.office; staff = l.staff });
      received = text_told l;
      names = n;
    })) (sym p.names)
    ∙ ap (λ (day : ℕ). record l { day = day }) (sym p.day)

-- one line and others
lines_more : (line : JournalLine) (more : List JournalLine) (journal : Option (List JournalLine))
    → with_lines more (with_line line journal) ≡ with_lines (line ∷ more) journal
lines_more line more None = refl
lines_more line more (Some lines) = ap Some (append_assoc lines (line ∷ []) more)

no_lines : (journal : Option (List JournalLine)) → journal ≡ with_lines [] journal
no_lines None = refl
no_lines (Some lines) = ap Some (sym (append-nil lines))

pub noted : (i j : Institution) (lines : List JournalLine) → PlaysTo i lines j
    → j.journal ≡ with_lines lines i.journal
noted i j [] p = ap (λ (x : Institution). x.journal) p ∙ no_lines i.journal
noted i j (l ∷ ls) p =
    let one : p.0.journal ≡ with_line l i.journal = ap (λ (x : Institution). x.journal) p.1.follows
    ∙ ap (λ line. with_line line i.journal) (line_noted i p.0 l p.1) in
    noted p.0 j ls p.2 ∙ ap (with_lines ls) one ∙ lines_more l ls i.journal

-- ---- what a run notes plays

-- nobody changes anything
nobody : (request : Request) (p : Result Plan Fault) (i : Institution) (change : Change)
    → change_in (sent_by None request p i) ≡ Some change → ⊥
nobody request (Err fault) i change h = cc
nobody request (Ok p) i change h = cc

-- what reads as no request changes nothing
readable : (caller : Option Caller) (request : Request) (i : Institution) (change : Change)
    → change_in (sent_by caller request (plan request) i) ≡ Some change → if_readable request ≡ Some request
readable caller (Unreadable flaw) i change h = absurd (cc)
readable caller _ i change h = refl

in_range : (c : Caller) → IsCaller c → (is_number_up_to 9999 c.office && is_number_up_to 9999 c.staff) ≡ true
in_range c r = ap₂ (λ a b. a && b) (number c.office r.0) (number c.staff r.1)
  where
    number : (n : ℕ) → IsNumberUpTo 9999 n → is_number_up_to 9999 n ≡ true
    number n h = ap₂ (λ a b. a && b) (le-leb 1 n h.0) (le-leb n 9999 h.1)

-- a write of an institution: the day, the call, and what it is told
abbrev the_write : Call → Institution → AcceptedWrite
the_write call i = record { day = i.catalogue.day; call = call; told = reply call i }

pub call_plays : (caller : Option Caller) (request : Request) (received : Received) (i : Institution) (change : Change)
    → IsAsReceived (record { caller = caller; request = request; received = received })
    → change_in (outcome (record { caller = caller; request = request; received = received }) i) ≡ Some change
    → IsPlayed i (line_of_write (the_write (record { caller = caller; request = request; received = received }) i))
    (after_noted (noted_of (record { caller = caller; request = request; received = received }) i) change i)
call_plays None request received i change is h = absurd (nobody request (plan request) i change h)
call_plays (Some c) request received i change is h =
    let is_request = readable (Some c) request i change h in
    let asked : asked_by_text received ≡ Some request =
    subst (λ o. IfSome o (λ r. asked_by_text received ≡ Some r)) is_request is.request in
    record {
      call = record { caller = Some c; request = request; received = received };
      told =
          ap (λ b. option_and_then (λ x. option_map (λ r. call_from x r received) (asked_by_text received))
          (cond b (Some c) None)) (in_range c is.caller)
          ∙ ap (option_map (λ r. call_from c r received)) asked;
      day = refl;
      change = change;
      accepted = h;
      names = refl;
      follows = refl;
    }

-- a line of a run that changes something
line_plays : (l : Line) (i : Institution) (change : Change) → IsAsReceived l.call → change_of_line l i ≡ Some change
    → IsPlayed i (line_of_write (write_of l i)) (next l i)
line_plays l i change is e = by l.given_up refl
  where
    by : (b : Bool) → l.given_up ≡ b → IsPlayed i (line_of_write (write_of l i)) (next l i)
    by true g = absurd (none≢some (sym (ap (λ b. cond b None (change_in (outcome l.call i))) g) ∙ e))
      where
        none≢some : None ≡ Some change → ⊥
        none≢some h = cc
    by false g =
        let made : change_in (outcome l.call i) ≡ Some change =
        sym (ap (λ b. cond b None (change_in (outcome l.call i))) g) ∙ e in
        let plays = call_plays l.call.caller l.call.request l.call.received i change is made in
        let told : the_write l.call i ≡ write_of l i = ap (λ (b : Bool). record {
          day = i.catalogue.day;
          call = l.call;
          told = cond b (Err F20) (reply l.call i);
        }) (sym g) in
        let after : after_noted (noted_of l.call i) change i ≡ next l i =
        ap (λ c. after_line (noted_of l.call i) c i) (sym e) in
        subst (IsPlayed i (line_of_write (write_of l i))) after
        (subst (λ w. IsPlayed i (line_of_write w) (after_noted (noted_of l.call i) change i)) told plays)

-- the writes of a run whose first line changes this
abbrev all_writes : Line → List Line → Institution → Option Change → List AcceptedWrite
all_writes l ls i c = cond (is_some c) (write_of l i ∷ writes_of ls (next l i)) (writes_of ls (next l i))

pub run_plays : (run : List Line) (i : Institution) → AreAsReceived run
    → PlaysTo i (map line_of_write (writes_of run i)) (last run i)
run_plays [] i are = refl
run_plays (l ∷ ls) i are = step (run_plays ls (next l i) are.1) (change_of_line l i) refl
  where
    step : PlaysTo (next l i) (map line_of_write (writes_of ls (next l i))) (last ls (next l i)) → (c : Option Change)
        → change_of_line l i ≡ c → PlaysTo i (map line_of_write (writes_of (l ∷ ls) i)) (last (l ∷ ls) i)
    step rest None e =
        let same : next l i ≡ i = ap (λ c. after_line (noted_of l.call i) c i) e in
        subst (λ c. PlaysTo i (map line_of_write (all_writes l ls i c)) (last ls (next l i))) (sym e)
        (subst (λ m. PlaysTo m (map line_of_write (writes_of ls (next l i))) (last ls (next l i))) same rest)
    step rest (Some change) e =
        subst (λ c. PlaysTo i (map line_of_write (all_writes l ls i c)) (last ls (next l i))) (sym e)
        (next l i, line_plays l i change are.0 e, rest)

-- what plays is what a run notes: that of the calls which the lines tell, none of them given up
pub run_of : (i j : Institution) (lines : List JournalLine) → PlaysTo i lines j → (run : List Line)
    × AreAsReceived run × (map line_of_write (writes_of run i) ≡ lines) × (last run i ≡ j)
run_of i j [] p = ([], tt, refl, sym p)
run_of i j (l ∷ ls) p =
    let rest = run_of p.0 j ls p.2 in
    let one : Line = line_answered p.1.call in
    let after : next one i ≡ p.0 = ap (λ c. after_line (noted_of p.1.call i) c i) p.1.accepted ∙ sym p.1.follows in
    let written : writes_of (one ∷ rest.0) i ≡ write_of one i ∷ writes_of rest.0 (next one i) =
    ap (all_writes one rest.0 i) p.1.accepted in (
      one ∷ rest.0,
      ((is_told l p.1.call p.1.told).is, rest.1),
      ap (map line_of_write) written ∙ ap₂ (λ x xs. x ∷ xs) (line_noted i p.0 l p.1)
          (ap (λ m. map line_of_write (writes_of rest.0 m)) after ∙ rest.2),
      ap (last rest.0) after ∙ rest.3,
    )
