-- A run line by line, where lists may be asked for, is a run on the institution.
use Rattle.std.proofs.Common.{◌≡◌, ◌≢◌, ℕ, nat_le, Bool, true, false, List, [], ◌∷◌, length, map, refl}
use Rattle.std.proofs.Common.{sym, ap, ap₂, ◌∙◌, subst, Some, None}
use Rattle.std.specs.Prelude.{MatchBool}
use Rattle.mf_base.specs.declared.fault.Fault.TheVariants.{F1, F20}
use Rattle.mf_model.specs.Answering.{all_answered}
use Rattle.mf_model.specs.Calls.{Call}
use Rattle.mf_model.specs.Desk.{outcome, change_in}
use Rattle.mf_model.specs.declared.request.Flaw.TheVariants.{Malformed}
use Rattle.mf_model.specs.Institution.{Institution}
use Rattle.mf_model.specs.Run.{Line, next, last, noted_of, from_office, from_caller, replies_to}
use Rattle.mf_model.specs.Sound.{IsSound}
use Rattle.mf_model.specs.Store.{left_by, left_after}
use Rattle.mf_model.specs.Tree.{IsTree}
use Rattle.mf_model.specs.declared.store.InstitutionStore.{Ghosts}
use Rattle.mf_model.proofs.Runs.{isolated_view, isolated_replies, office_from, caller_from}
use Rattle.mf_office.specs.Written.{caller_text}
use Rattle.mf_wire_lines.specs.Cut.{longest_line}
use Rattle.mf_wire_lines.specs.Replies.{fault_line}
use Rattle.mf_wire_lines.specs.Run.{LineStep, Run}
use Rattle.mf_wire_requests.specs.Requests.{call_in}
use Rattle.mf_wire_requests.specs.RequestLine.{line_in}
use Rattle.mf_wire_requests.proofs.InRange.{line_in_range, calls_in_range}
use Rattle.mf_wire_replies.specs.Shown.{shown_line}
use Rattle.mf_wire.specs.Runs.{RunsOn, texts_of, lines_in}
use Rattle.mf_wire.specs.Senders.{is_sent_by, is_sent_from, texts_for, NoTextIsF20}
use Rattle.mf_wire.proofs.Calling.{told_malformed, too_long}
use Rattle.mf_wire.proofs.Ran.{isolated, told-map}
use Rattle.mf_wire.proofs.Senders.{sent_by_is, sent_from_is, texts_for-in, texts_for-told, all_answered_run}
use Rattle.mf_lists_runs.specs.Choice.{Choice, Told, all_told, told_line, told_of}
use Rattle.mf_lists_runs.specs.Choice.{is_no_route}
use Rattle.mf_lists_runs.specs.Runs.{AreTextsByViews, CallsWith, ListsRuns}
use Rattle.mf_lists_runs.proofs.Calling.{asks, asks_where, other_flaw, plain_calls}
use Rattle.mf_lists_runs.proofs.Views.{read_by_views}

-- what can't be read for another reason asks for no list
pub malformed_asks : (choice : Choice) (call : Call) → is_no_route call.request ≡ false → asks choice call ≡ false
malformed_asks choice call e = asks_where choice call (other_flaw call e)

-- a line that was given up is told F20
given_up_told : (choice : Choice) (call : Call) (i : Institution) → told_line (told_of choice (record {
  call = call;
  given_up = true;
}) i) ≡ fault_line F20
given_up_told None call i = refl
given_up_told (Some folded) call i = refl

not_given_up : (choice : Choice) (l : Line) (i : Institution) → told_line (told_of choice l i) ≢ fault_line F20
    → l.given_up ≡ false
not_given_up choice l i other = at l.given_up (λ e. other (
    ap (λ g. told_line (told_of choice (record { call = l.call; given_up = g }) i)) e
    ∙ given_up_told choice l.call i))
  where
    at : (b : Bool) → (b ≡ true → ⊥) → b ≡ false
    at true h = absurd (h refl)
    at false h = refl

-- where no text is F20's, nothing was given up
all_answered_lines : (choice : Choice) (told : Bool) (run : List Line) (lines : List (List ℕ)) (i : Institution)
    → map (λ l. l.call) run ≡ map (call_in told) lines → NoTextIsF20 (map told_line (all_told choice run i))
    → run ≡ all_answered (map (call_in told) lines)
all_answered_lines choice told [] [] i e h = refl
all_answered_lines choice told [] (line ∷ lines) i e h = absurd (cc)
all_answered_lines choice told (l ∷ run) [] i e h = absurd (cc)
all_answered_lines choice told (l ∷ run) (line ∷ lines) i e h =
    let first : l.call ≡ call_in told line = cc in
    let rest : map (λ (k : Line). k.call) run ≡ map (call_in told) lines = cc in
    let this : l ≡ record { call = call_in told line; given_up = false } =
    ap₂ (λ c g. let k : Line = record { call = c; given_up = g } in k) first (not_given_up choice l i h.0) in
    ap₂ (λ (k : Line) (ks : List Line). k ∷ ks) this
    (all_answered_lines choice told run lines (next l i) rest h.1)

-- the texts for the lines that pass are what their calls are told
texts_by : (choice : Choice) (told : Bool) (i : Institution) (run : List Line) (lines : List (List ℕ))
    → map (λ l. l.call) run ≡ map (call_in told) lines → (passes : List ℕ → Bool) (meant : Call → Bool)
    → ((line : List ℕ) → passes (line_in told line) ≡ meant (call_in told line))
    → (ts : List Told) → replies_to meant run (all_told choice run i) ≡ ts
    → texts_for passes (lines_in told lines) (map told_line (all_told choice run i)) ≡ map told_line ts
texts_by choice told i run lines calls passes meant same ts e =
    texts_for-in told passes lines (map told_line (all_told choice run i))
    ∙ texts_for-told told (λ line. passes (line_in told line)) meant same run lines
    (map told_line (all_told choice run i)) calls
    ∙ told-map told_line meant run (all_told choice run i) ∙ ap (map told_line) e

texts_by_views : (choice : Choice) (told : Bool) (i : Institution) (run : List Line) (lines : List (List ℕ))
    → IsTree i.offices → map (λ l. l.call) run ≡ map (call_in told) lines
    → AreTextsByViews choice i run (lines_in told lines) (map told_line (all_told choice run i))
texts_by_views choice told i run lines t calls =
    let read = read_by_views choice run i t in record {
      office_texts = λ o. texts_by choice told i run lines calls (is_sent_from o) (from_office o) (sent_from_is told o)
          _ (read.office o);
      own_texts = λ c range. texts_by choice told i run lines calls (is_sent_by (caller_text c.office c.staff))
          (from_caller c) (sent_by_is told c range) _ (read.own c);
    }

module _ {S : Type 0} (store : Ghosts S) (choice : Choice) (told : Bool) where
  abbrev pub Step : S → List ℕ → List ℕ → S → Type 0
  Step old line text new = CallsWith store choice (λ t. text ≡ told_line t) (call_in told line) old new

  -- a line was answered, also one that is too long
  step_calls : (old new : S) (line text : List ℕ) → LineStep Step old line text new → Step old line text new
  step_calls old new line text h = at (nat_le (length line) longest_line) refl h
    where
      at : (b : Bool) → nat_le (length line) longest_line ≡ b → MatchBool b (Step old line text new)
          ((text ≡ fault_line F1) × (new ≡ old)) → Step old line text new
      at true e h = h
      at false e h = subst (λ n. Step old line text n) (sym h.1)
          (plain_calls store choice (λ t. text ≡ told_line t) (call_in told line) old old
          (malformed_asks choice (call_in told line) (ap is_no_route (too_long told line e)))
          (told_malformed store (λ r. text ≡ shown_line r) (call_in told line) old Malformed (too_long told line e)
          h.0))

  -- the lines so far
  record RanOn (i : Institution) (lines : List (List ℕ)) (old : S) (texts : List (List ℕ)) (new : S) : Type 0 where
    pub run : List Line
    pub calls : map (λ l. l.call) run ≡ map (call_in told) lines
    pub replied : texts ≡ map told_line (all_told choice run i)
    pub follows : store.stands new (last run i)
    pub stop : (is : List Institution) → store.leaves old is → store.leaves new (left_after run i is)

  record AllRan (old : S) (lines : List (List ℕ)) (texts : List (List ℕ)) (new : S) : Type 0 where
    pub premise : store.clean new → store.clean old
    pub ran : store.clean new → (i : Institution) → store.stands old i → RanOn i lines old texts new

  ran_more : (old mid new : S) (line text : List ℕ) (lines texts : List (List ℕ)) → Step old line text mid
      → AllRan mid lines texts new → AllRan old (line ∷ lines) (text ∷ texts) new
  ran_more old mid new line text lines texts one rest = record {
    premise = λ c. one.premise (rest.premise c);
    ran = λ c i s.
        let w = one.answered (rest.premise c) i s in
        let l : Line = record { call = call_in told line; given_up = w.0 } in
        let r = rest.ran c (next l i) w.1.follows in record {
          run = l ∷ r.run;
          calls = ap (λ cs. call_in told line ∷ cs) r.calls;
          replied = ap (λ t. t ∷ texts) w.1.replied ∙ ap (λ ts. told_line (told_of choice l i) ∷ ts) r.replied;
          follows = r.follows;
          stop = λ is h. r.stop (left_by (noted_of (call_in told line) i)
              (change_in (outcome (call_in told line) i)) w.0 i is)
              (w.1.stop is h);
        };
  }

  all_ran : (old new : S) (lines texts : List (List ℕ)) → Run Step old lines texts new → AllRan old lines texts new
  all_ran old new [] [] h = subst (λ n. AllRan old [] [] n) (sym h) (record {
    premise = λ c. c;
    ran = λ c i s. record { run = []; calls = refl; replied = refl; follows = s; stop = λ is l. l };
  })
  all_ran old new [] (text ∷ texts) h = absurd h
  all_ran old new (line ∷ lines) [] h = absurd h
  all_ran old new (line ∷ lines) (text ∷ texts) h =
      ran_more old h.0 new line text lines texts (step_calls old h.0 line text h.1) (all_ran h.0 new lines texts h.2)

  -- the run without lists, with its own texts
  without : (old new : S) (lines texts : List (List ℕ)) (i : Institution) → IsTree i.offices
      → (r : RanOn i lines old texts new) → RunsOn store told i lines old (texts_of r.run i) new
  without old new lines texts i t r = record {
    run = r.run;
    calls = r.calls;
    in_range = calls_in_range (call_in told) (line_in_range told) r.run lines r.calls;
    replied = refl;
    follows = r.follows;
    isolated = isolated told i r.run lines (texts_of r.run i) r.calls refl (λ o. isolated_view o r.run i t)
        (λ o. isolated_replies o (from_office o) (office_from o) r.run i t)
        (λ c. isolated_replies c.office (from_caller c) (caller_from c) r.run i t);
    with_memory = all_answered_run told r.run lines i r.calls;
    stop = r.stop;
  }

  pub lists_runs : ((s : S) (i : Institution) → store.stands s i → IsSound i) → (old : S) (lines texts : List (List ℕ))
      (new : S) → Run Step old lines texts new → ListsRuns store choice told old lines texts new
  unfolding without all_ran
  lists_runs sound old lines texts new h =
      let r = all_ran old new lines texts h in record {
        premise = r.premise;
        ran = λ c i s.
            let w = r.ran c i s in
            let tree = (sound old i s).tree in record {
              without = texts_of w.run i;
              ran = without old new lines texts i tree w;
              replied = w.replied;
              by_views = read_by_views choice w.run i tree;
              texts_by_views = subst (AreTextsByViews choice i w.run (lines_in told lines)) (sym w.replied)
                  (texts_by_views choice told i w.run lines tree w.calls);
              with_memory = λ none. all_answered_lines choice told w.run lines i w.calls
                  (subst NoTextIsF20 w.replied none);
            };
      }
