-- A run line by line is a run on the institution, and what each office is told of it is isolated.
use Rattle.std.proofs.Common.{◌≡◌, ℕ, nat_le, Bool, true, false, cond, List, [], ◌∷◌, length, map, refl, sym, ap, ◌∙◌}
use Rattle.std.proofs.Common.{subst}
use Rattle.std.specs.Prelude.{MatchBool, Result}
use Rattle.mf_base.specs.declared.fault.Fault.TheVariants.{F1}
use Rattle.mf_model.specs.declared.request.Flaw.TheVariants.{Malformed}
use Rattle.mf_base.specs.declared.fault.Fault.{Fault}
use Rattle.mf_office.specs.Written.{caller_text}
use Rattle.mf_model.specs.declared.reply.Reply.{Reply}
use Rattle.mf_model.specs.Calls.{Call}
use Rattle.mf_model.specs.Institution.{Institution}
use Rattle.mf_model.specs.Tree.{IsTree}
use Rattle.mf_model.specs.Sound.{IsSound}
use Rattle.mf_model.specs.Desk.{outcome, change_in}
use Rattle.mf_model.specs.Run.{Line, answer, next, answers, last, replies_to, ViewIsPlay, RepliesArePlay}
use Rattle.mf_model.specs.Run.{OwnRepliesArePlay, from_office, from_caller, given_up, but_given_up, noted_of}
use Rattle.mf_model.specs.Store.{left_by, left_after}
use Rattle.mf_model.specs.declared.store.InstitutionStore.{Ghosts}
use Rattle.mf_wire_lines.specs.Replies.{fault_line}
use Rattle.mf_wire_lines.specs.Cut.{longest_line}
use Rattle.mf_wire_requests.specs.RequestLine.{line_in}
use Rattle.mf_wire_requests.specs.Requests.{call_in}
use Rattle.mf_wire_requests.proofs.InRange.{line_in_range, calls_in_range}
use Rattle.mf_wire_replies.specs.Shown.{shown_line}
use Rattle.mf_wire_lines.specs.Run.{LineStep, Run}
use Rattle.mf_wire.specs.Senders.{is_sent_by, is_sent_from, texts_for, NoTextIsF20}
use Rattle.mf_wire.specs.Runs.{texts_of, lines_in, office_play, own_play, IsIsolated, Calls, RunsLines}
use Rattle.mf_wire.proofs.Senders.{sent_by_is, sent_from_is, texts_for-in, texts_for-told, all_told}
use Rattle.mf_wire.proofs.Senders.{all_answered_run}
use Rattle.mf_wire.proofs.Calling.{told_malformed, too_long}

-- what is told of texts is what is told of replies, as texts
pub told-map : {A B : Type 0} (f : A → B) (meant : Call → Bool) (ls : List Line) (rs : List A)
    → replies_to meant ls (map f rs) ≡ map f (replies_to meant ls rs)
told-map f meant [] rs = refl
told-map f meant (l ∷ ls) [] = refl
told-map f meant (l ∷ ls) (r ∷ rs) =
    elim (meant l.call) as (λ b. cond b (f r ∷ replies_to meant ls (map f rs)) (replies_to meant ls (map f rs))
    ≡ map f (cond b (r ∷ replies_to meant ls rs) (replies_to meant ls rs))) [
      | true ↦ ap (λ ts. f r ∷ ts) (told-map f meant ls rs)
      | false ↦ told-map f meant ls rs
    ]

-- the texts for the lines that pass are what is told of the calls that are meant
module _ (told : Bool) (i : Institution) (run : List Line) (lines texts : List (List ℕ)) (calls : map (λ l. l.call) run
    ≡ map (call_in told) lines) (replied : texts ≡ texts_of run i) where
  texts_told : (passes : List ℕ → Bool) (meant : Call → Bool)
      → ((line : List ℕ) → passes (line_in told line) ≡ meant (call_in told line))
      → texts_for passes (lines_in told lines) texts ≡ replies_to meant run (texts_of run i)
  texts_told passes meant same = texts_for-in told passes lines texts
      ∙ texts_for-told told (λ line. passes (line_in told line)) meant same run lines texts calls
      ∙ ap (replies_to meant run) replied

  texts_play : (passes : List ℕ → Bool) (meant : Call → Bool)
      → ((line : List ℕ) → passes (line_in told line) ≡ meant (call_in told line))
      → (rs : List (Result Reply Fault)) → replies_to meant run (answers run i) ≡ but_given_up (given_up meant run) rs
      → texts_for passes (lines_in told lines) texts ≡ map shown_line (but_given_up (given_up meant run) rs)
  texts_play passes meant same rs e = texts_told passes meant same ∙ told-map shown_line meant run (answers run i)
      ∙ ap (map shown_line) e

  all_texts_play : (passes : List ℕ → Bool) (meant : Call → Bool)
      → ((line : List ℕ) → passes (line_in told line) ≡ meant (call_in told line)) → (rs : List (Result Reply Fault))
      → replies_to meant run (answers run i) ≡ but_given_up (given_up meant run) rs
      → NoTextIsF20 (texts_for passes (lines_in told lines) texts)
      → texts_for passes (lines_in told lines) texts ≡ map shown_line rs
  all_texts_play passes meant same rs e none = texts_play passes meant same rs e ∙ ap (map shown_line)
      (all_told meant run i rs (subst NoTextIsF20 (texts_told passes meant same) none))

  pub isolated : ViewIsPlay i run → RepliesArePlay i run → OwnRepliesArePlay i run
      → IsIsolated (record { institution = i; run = run; lines = lines_in told lines; texts = texts })
  isolated views replies own = record {
    views = views;
    office_texts = λ o. texts_play (is_sent_from o) (from_office o) (sent_from_is told o) (office_play o run i)
        (replies o);
    own_texts = λ c range. texts_play (is_sent_by (caller_text c.office c.staff)) (from_caller c)
        (sent_by_is told c range)
        (own_play c run i) (own c);
    all_office_texts = λ o none. all_texts_play (is_sent_from o) (from_office o) (sent_from_is told o)
        (office_play o run i)
        (replies o) none;
    all_own_texts = λ c range none. all_texts_play (is_sent_by (caller_text c.office c.staff)) (from_caller c)
        (sent_by_is told c range) (own_play c run i) (own c) none;
  }

-- the law of isolation, as it is handed on
pub record IsolationLaw : Type 0 where
  pub views : (i : Institution) (ls : List Line) → IsTree i.offices → ViewIsPlay i ls
  pub replies : (i : Institution) (ls : List Line) → IsTree i.offices → RepliesArePlay i ls
  pub own_replies : (i : Institution) (ls : List Line) → IsTree i.offices → OwnRepliesArePlay i ls

module _ {S : Type 0} (store : Ghosts S) (told : Bool) where
  -- a line was answered, also one that is too long
  step_calls : (old new : S) (line text : List ℕ) → LineStep (λ o l t n. Calls store (λ r. t ≡ shown_line r)
      (call_in told l) o n) old line text new → Calls store (λ r. text ≡ shown_line r) (call_in told line) old new
  step_calls old new line text h = at (nat_le (length line) longest_line) refl h
    where
      at : (b : Bool) → nat_le (length line) longest_line ≡ b → MatchBool b (Calls store (λ r. text ≡ shown_line r)
          (call_in told line) old new) ((text ≡ fault_line F1) × (new ≡ old)) → Calls store (λ r. text ≡ shown_line r)
          (call_in told line) old new
      at true e h = h
      at false e h = subst (λ n. Calls store (λ r. text ≡ shown_line r) (call_in told line) old n) (sym h.1)
          (told_malformed store (λ r. text ≡ shown_line r) (call_in told line) old Malformed (too_long told line e) h.0)

  -- the lines so far, without what is isolated
  pub record RanOn (i : Institution) (lines : List (List ℕ)) (old : S) (texts : List (List ℕ)) (new : S) : Type 0 where
    pub run : List Line
    pub calls : map (λ l. l.call) run ≡ map (call_in told) lines
    pub replied : texts ≡ texts_of run i
    pub follows : store.stands new (last run i)
    pub stop : (is : List Institution) → store.leaves old is → store.leaves new (left_after run i is)

  pub record Ran (old : S) (lines : List (List ℕ)) (texts : List (List ℕ)) (new : S) : Type 0 where
    pub premise : store.clean new → store.clean old
    pub ran : store.clean new → (i : Institution) → store.stands old i → RanOn i lines old texts new

  ran_more : (old mid new : S) (line text : List ℕ) (lines texts : List (List ℕ)) → Calls store (λ r. text
      ≡ shown_line r) (call_in told line) old mid → Ran mid lines texts new → Ran old (line ∷ lines) (text ∷ texts) new
  ran_more old mid new line text lines texts one rest = record {
    premise = λ c. one.premise (rest.premise c);
    ran = λ c i s.
        let w = one.answered (rest.premise c) i s in
        let l : Line = record { call = call_in told line; given_up = w.0 } in
        let r = rest.ran c (next l i) w.1.follows in record {
          run = l ∷ r.run;
          calls = ap (λ cs. call_in told line ∷ cs) r.calls;
          replied = ap (λ t. t ∷ texts) w.1.replied ∙ ap (λ ts. shown_line (answer l i) ∷ ts) r.replied;
          follows = r.follows;
          stop = λ is h. r.stop (left_by (noted_of (call_in told line) i)
              (change_in (outcome (call_in told line) i)) w.0 i is)
              (w.1.stop is h);
        };
  }

  all_ran : (old new : S) (lines texts : List (List ℕ)) → Run (λ o l t n. Calls store (λ r. t ≡ shown_line r)
      (call_in told l) o n) old lines texts new → Ran old lines texts new
  all_ran old new [] [] h = subst (λ n. Ran old [] [] n) (sym h) (record {
    premise = λ c. c;
    ran = λ c i s. record { run = []; calls = refl; replied = refl; follows = s; stop = λ is l. l };
  })
  all_ran old new [] (text ∷ texts) h = absurd h
  all_ran old new (line ∷ lines) [] h = absurd h
  all_ran old new (line ∷ lines) (text ∷ texts) h =
      ran_more old h.0 new line text lines texts (step_calls old h.0 line text h.1) (all_ran h.0 new lines texts h.2)

  pub runs_lines : ((s : S) (i : Institution) → store.stands s i → IsSound i) → IsolationLaw
      → (old : S) (lines texts : List (List ℕ)) (new : S) → Run (λ o l t n. Calls store (λ r. t ≡ shown_line r)
      (call_in told l) o n) old lines texts new → RunsLines store told old lines texts new
  runs_lines sound law old lines texts new h =
      let r = all_ran old new lines texts h in record {
        premise = r.premise;
        ran = λ c i s. let w = r.ran c i s in let tree = (sound old i s).tree in record {
          run = w.run;
          calls = w.calls;
          in_range = calls_in_range (call_in told) (line_in_range told) w.run lines w.calls;
          replied = w.replied;
          follows = w.follows;
          isolated = isolated told i w.run lines texts w.calls w.replied (law.views i w.run tree)
              (law.replies i w.run tree)
              (law.own_replies i w.run tree);
          with_memory = λ none. all_answered_run told w.run lines i w.calls (subst NoTextIsF20 w.replied none);
          stop = w.stop;
        };
      }
