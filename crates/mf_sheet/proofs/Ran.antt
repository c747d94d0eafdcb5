-- From lines answered one after another to a run on the institution.
use Rattle.std.proofs.Common.{◌≡◌, ◌≢◌, inl, inr, ℕ, Bool, true, false, cond, List, [], ◌∷◌, map, Option, Result, Ok}
use Rattle.std.proofs.Common.{Err, refl, sym, ap, ◌∙◌, subst}
use Rattle.mf_base.specs.declared.fault.Cause.{Cause}
use Rattle.mf_base.specs.declared.fault.Cause.TheVariants.{Read, Write, Memory}
use Rattle.mf_base.specs.declared.fault.Fault.{Fault}
use Rattle.mf_base.specs.declared.fault.Fault.TheVariants.{F20}
use Rattle.mf_base.specs.declared.fault.StreamFault.{StreamFault}
use Rattle.mf_office.specs.declared.caller.Caller.{Caller}
use Rattle.mf_model.specs.declared.reply.Reply.{Reply}
use Rattle.mf_model.specs.Institution.{Institution}
use Rattle.mf_model.specs.Desk.{outcome, change_in}
use Rattle.mf_model.specs.Run.{Line, answer, next, noted_of, answers, NoneGivenUp}
use Rattle.mf_model.specs.Store.{left_by}
use Rattle.mf_model.specs.declared.store.InstitutionStore.{Ghosts}
use Rattle.mf_sheet_lines.specs.declared.results.SheetResult.{SheetResult}
use Rattle.mf_sheet_lines.specs.declared.results.SheetResult.TheVariants.{Refused}
use Rattle.mf_sheet.specs.Lines.{call_by, result_of}
use Rattle.mf_sheet.specs.Runs.{NoResultIsF20, OnlyF20GivesUp, AnswersFields, RunsRows, AnswersEach}
use Rattle.mf_sheet.specs.Ends.{SheetStreams, EndsWhole, NeverBegins, CutsHeading, CutsRecord, EndsBy, Ends}
use Rattle.mf_sheet.proofs.InRange.{row_in_range}
use Rattle.mf_sheet.proofs.Rows.{Rows}

not_given_up : (given_up : Bool) (reply : Result Reply Fault) → result_of (cond given_up (Err F20) reply) ≢ Refused F20
    → given_up ≡ false
not_given_up true reply n = absurd (n refl)
not_given_up false reply n = refl

none_given_up : (run : List Line) (i : Institution) → NoResultIsF20 (map result_of (answers run i)) → NoneGivenUp run
none_given_up [] i h = tt
none_given_up (l ∷ ls) i h = (not_given_up l.given_up _ h.0, none_given_up ls (next l i) h.1)

only_F20 : (run : List Line) (i : Institution) → OnlyF20GivesUp run (map result_of (answers run i))
only_F20 [] i = tt
only_F20 (l ∷ ls) i = (λ n. not_given_up l.given_up _ n, only_F20 ls (next l i))

module _ {S : Type 0} (store : Ghosts S) (told : List ℕ) (caller : Caller) where
  one_more : (old mid new : S) (f : List (List ℕ)) (r : SheetResult) (rows : Rows) (results : List SheetResult)
      → AnswersFields store told caller old f r mid → RunsRows store told caller mid rows results new
      → RunsRows store told caller old (f ∷ rows) (r ∷ results) new
  one_more old mid new f r rows results one rest = record {
    premise = λ c. one.premise (rest.premise c);
    ran = λ c i s.
        let w = one.answered (rest.premise c) i s in
        let l : Line = record { call = call_by told caller f; given_up = w.0 } in
        let more = rest.ran c (next l i) w.1.follows in
        let replied : r ∷ results ≡ map result_of (answers (l ∷ more.run) i) =
        ap (λ x. x ∷ results) w.1.replied ∙ ap (λ rs. result_of (answer l i) ∷ rs) more.replied in
        record {
          run = l ∷ more.run;
          calls = ap (λ cs. call_by told caller f ∷ cs) more.calls;
          in_range = (row_in_range told caller f, more.in_range);
          replied = replied;
          follows = more.follows;
          given_up = subst (OnlyF20GivesUp (l ∷ more.run)) (sym replied) (only_F20 (l ∷ more.run) i);
          with_memory = λ none. none_given_up (l ∷ more.run) i (subst NoResultIsF20 replied none);
          stop = λ is h. more.stop
              (left_by (noted_of (call_by told caller f) i) (change_in (outcome (call_by told caller f) i)) w.0 i
              is) (w.1.stop is h);
        };
  }

  pub runs_rows : (old : S) (rows : Rows) (results : List SheetResult) (new : S)
      → AnswersEach (AnswersFields store told caller)
      old rows results new → RunsRows store told caller old rows results new
  runs_rows old [] [] new h = subst (λ n. RunsRows store told caller old [] [] n) (sym h) (record {
    premise = λ c. c;
    ran = λ c i s. record {
      run = [];
      calls = refl;
      in_range = tt;
      replied = refl;
      follows = s;
      given_up = tt;
      with_memory = λ none. tt;
      stop = λ is l. l;
    };
  })
  runs_rows old [] (r ∷ results) new h = absurd h
  runs_rows old (f ∷ rows) [] new h = absurd h
  runs_rows old (f ∷ rows) (r ∷ results) new h =
      one_more old h.0 new f r rows results h.1 (runs_rows h.0 rows results new h.2)

-- what is said of one relation of runs is said of a weaker one
module _ {S : Type 0} (P Q : S → List (List (List ℕ)) → List SheetResult → S → Type 0) (weaker : (old : S) (rows : Rows)
    (results : List SheetResult) (new : S) → P old rows results new → Q old rows results new) (old new : S)
    (s : SheetStreams) where
  whole : EndsWhole P old new s → EndsWhole Q old new s
  whole e = record {
    done = e.done;
    rest = e.rest;
    among = e.among;
    results = e.results;
    each = e.each;
    ran = weaker old e.done e.results new e.ran;
    all = e.all;
    written = e.written;
    sink = e.sink;
  }

  never : (n : ℕ) → NeverBegins P old new s n → NeverBegins Q old new s n
  never n e = record { none = e.none; same = e.same; unwritten = e.unwritten }

  heading_cut : (n : ℕ) → CutsHeading P old new s n → CutsHeading Q old new s n
  heading_cut n e = record { part = e.part; short = e.short; written = e.written; none = e.none; same = e.same }

  record_cut : (n : ℕ) → CutsRecord P old new s n → CutsRecord Q old new s n
  record_cut n e = record {
    done = e.done;
    fields = e.fields;
    rest = e.rest;
    among = e.among;
    results = e.results;
    result = e.result;
    each = e.each;
    ran = weaker old _ _ new e.ran;
    without_F20 = e.without_F20;
    part = e.part;
    short = e.short;
    written = e.written;
    counted = e.counted;
  }

  by : (cause : Cause) (n : ℕ) → EndsBy P old new s cause n → EndsBy Q old new s cause n
  by Read n e = absurd e
  by Write n e = (e.0, elim e.1 [ inl h ↦ inl (heading_cut n h) | inr r ↦ inr (record_cut n r) ])
  by Memory n e = (e.0, never n e.1)

  pub ends : (r : Result (Unit {0}) StreamFault) → Ends P old new s r → Ends Q old new s r
  ends (Ok done) e = whole e
  ends (Err f) e = by f.cause f.answered e

module _ {S : Type 0} (store : Ghosts S) (told : List ℕ) (caller : Caller) (old new : S) (rows others : Rows)
    (held holds : Option (List ℕ)) (faults now count : ℕ) (r : Result (Unit {0}) StreamFault) where
  -- How a whole sheet ends, of how its rows end. The heading was written without a fault.
  pub sheet_ends : others ≡ rows → now ≡ faults
      → Ends (AnswersEach (AnswersFields store told caller)) old new (record {
        rows = others;
        sink = record {
          before = held;
          after = holds;
          faults_before = now;
          faults_after = count;
        };
      }) r
      → Ends (RunsRows store told caller) old new (record {
        rows = rows;
        sink = record {
          before = held;
          after = holds;
          faults_before = faults;
          faults_after = count;
        };
      }) r
  sheet_ends same sound e =
      subst (λ xs. Ends (RunsRows store told caller) old new (record {
        rows = xs;
        sink = record {
          before = held;
          after = holds;
          faults_before = faults;
          faults_after = count;
        };
      }) r) same (
      subst (λ n. Ends (RunsRows store told caller) old new (record {
        rows = others;
        sink = record {
          before = held;
          after = holds;
          faults_before = n;
          faults_after = count;
        };
      }) r) sound
      (ends (AnswersEach (AnswersFields store told caller)) (RunsRows store told caller)
      (runs_rows store told caller) old new _ r e)
      )
