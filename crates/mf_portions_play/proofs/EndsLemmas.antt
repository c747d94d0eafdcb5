-- Lines that are played up to a business day.
use Rattle.std.proofs.Common.{◌≡◌, ◌<◌, ◌≤◌, ℕ, zero, suc, ◌+◌, Bool, true, false, cond, List, [], ◌∷◌, ◌++◌, map}
use Rattle.std.proofs.Common.{take, length}
use Rattle.std.proofs.Common.{Option, Some, None, Result, Ok, Err, refl, sym, ap, ◌∙◌, subst, arith}
use Rattle.std.specs.Prelude.{nat_le, nat_lt, slice_get, option_map, IfOk}
use Rattle.std.specs.List.{cons_option}
use Rattle.std.proofs.Math.Seq.{take-length}
use Rattle.std.proofs.lemmas.Bool.Decides.{nat_tests}
use Rattle.std.proofs.lemmas.List.{length-map}
use Rattle.std.proofs.lemmas.Option.{slice_get-map}
use Rattle.mf_base.specs.declared.fault.Fault.{Fault}
use Rattle.mf_journal.specs.Chain.{line_of_row}
use Rattle.mf_journal.specs.declared.chain.JournalRow.{JournalRow}
use Rattle.mf_ledger.specs.Runs.{at_end_of}
use Rattle.mf_ledger_play.specs.Told.{run_told}
use Rattle.mf_model.specs.Answering.{line_answered}
use Rattle.mf_model.specs.Institution.{Institution, JournalLine, after_line}
use Rattle.mf_model.specs.Run.{Line, next, noted_of}
use Rattle.mf_model.specs.Store.{Reads}
use Rattle.mf_model.specs.declared.store.InstitutionStore.{Ghosts}
use Rattle.mf_play.specs.Play.{call_told, IsPlayed, PlaysTo, StopsAt, StopsFor}
use Rattle.mf_play.specs.Playing.{PlaysLine}
use Rattle.mf_play.specs.declared.stop.Stop.{Stop}
use Rattle.mf_portions_play.specs.Ends.{before_day, told_before, PlayBefore, StopsBefore, EndsLine, EndsLines}

-- ---- runs in two parts

told_parted : (xs ys : List JournalLine) → run_told (xs ++ ys) ≡ run_told xs ++ run_told ys
told_parted [] ys = refl
told_parted (x ∷ xs) ys = go (option_map line_answered (call_told x)) (told_parted xs ys)
  where
    go : (o : Option Line) → run_told (xs ++ ys) ≡ run_told xs ++ run_told ys
        → cons_option o (run_told (xs ++ ys)) ≡ cons_option o (run_told xs) ++ run_told ys
    go None rest = rest
    go (Some l) rest = ap (λ ls. l ∷ ls) rest

module _ (until : ℕ) where
  -- on that day and later nothing changes
  past : (ls : List Line) (i : Institution) → nat_lt i.catalogue.day until ≡ false → before_day until ls i ≡ i
  past [] i late = refl
  past (l ∷ ls) i late = ap (λ b. cond b (before_day until ls (next l i)) i) late

  before_parted : (xs ys : List Line) (i : Institution)
      → before_day until (xs ++ ys) i ≡ before_day until ys (before_day until xs i)
  before_parted [] ys i = refl
  before_parted (l ∷ ls) ys i = go (nat_lt i.catalogue.day until) refl (before_parted ls ys (next l i))
    where
      go : (b : Bool) → nat_lt i.catalogue.day until ≡ b
          → before_day until (ls ++ ys) (next l i) ≡ before_day until ys (before_day until ls (next l i))
          → cond b (before_day until (ls ++ ys) (next l i)) i
          ≡ before_day until ys (cond b (before_day until ls (next l i)) i)
      go true e rest = rest
      go false e rest = sym (past ys i e)

  -- the same of what lines tell
  pub parted : (xs ys : List JournalLine) (i : Institution)
      → told_before until (xs ++ ys) i ≡ told_before until ys (told_before until xs i)
  parted xs ys i =
      ap (λ run. before_day until run i) (told_parted xs ys) ∙ before_parted (run_told xs) (run_told ys) i

  -- ---- lines that play before the day

  early_of : (d : ℕ) → nat_lt d until ≡ true → d < until
  early_of d e = grind (arith, nat_tests)

  test_of : (d : ℕ) → d < until → nat_lt d until ≡ true
  test_of d e = grind (arith, nat_tests)

  not_both : (d : ℕ) → nat_lt d until ≡ false → d < until → ⊥
  not_both d late early = grind (arith, nat_tests, late, early)

  -- a run that ends before the day begins before it
  begins_early : (ls : List Line) (i : Institution) → (before_day until ls i).catalogue.day < until
      → i.catalogue.day < until
  begins_early ls i early = go (nat_lt i.catalogue.day until) refl
    where
      go : (b : Bool) → nat_lt i.catalogue.day until ≡ b → i.catalogue.day < until
      go true e = early_of i.catalogue.day e
      go false e = subst (λ (j : Institution). j.catalogue.day < until) (past ls i e) early

  -- one that plays before the day
  one_played : (i j : Institution) (l : JournalLine) → IsPlayed i l j → i.catalogue.day < until
      → told_before until (l ∷ []) i ≡ j
  one_played i j l p early =
      let first = next (line_answered p.call) i in
      ap (λ c. before_day until (cons_option (option_map line_answered c) []) i) p.told
      ∙ ap (λ b. cond b first i) (test_of i.catalogue.day early)
      ∙ ap (λ c. after_line (noted_of p.call i) c i) p.accepted ∙ sym p.follows

  -- the same before others
  first_played : (i j : Institution) (l : JournalLine) (ls : List JournalLine) → IsPlayed i l j
      → i.catalogue.day < until → told_before until (l ∷ ls) i ≡ told_before until ls j
  first_played i j l ls p early =
      parted (l ∷ []) ls i ∙ ap (told_before until ls) (one_played i j l p early)

  -- lines that play, and lines that play from there
  pub plays_parted : (xs ys : List JournalLine) (i : Institution) → PlayBefore until i xs
      → PlayBefore until (told_before until xs i) ys → PlayBefore until i (xs ++ ys)
  plays_parted [] ys i first more = more
  plays_parted (x ∷ xs) ys i first more = λ early.
      let one = first early in
      let same = first_played i one.0 x xs one.1 early in (
        one.0,
        one.1,
        plays_parted xs ys one.0 one.2 (subst (λ j. PlayBefore until j ys) same more),
      )

  -- a line that doesn't play behind those that did
  pub stops_here : (lines : List JournalLine) (place : ℕ) (l : JournalLine) (i : Institution) (why : Stop)
      → slice_get lines place ≡ Some l → PlayBefore until i (take place lines)
      → (told_before until (take place lines) i).catalogue.day < until
      → StopsFor (told_before until (take place lines) i) l why → StopsBefore until i lines place why
  stops_here [] place l i why there plays early stops = cc
  stops_here (x ∷ xs) zero l i why there plays early stops =
      let same : x ≡ l = cc in (early, subst (λ y. StopsFor i y why) (sym same) stops)
  stops_here (x ∷ xs) (suc place) l i why there plays early stops =
      let began = begins_early (run_told (x ∷ take place xs)) i early in
      let one = plays began in
      let same = first_played i one.0 x (take place xs) one.1 began in (
        began,
        one.0,
        one.1,
        stops_here xs place l one.0 why there one.2
            (subst (λ (j : Institution). j.catalogue.day < until) same early)
            (subst (λ j. StopsFor j l why) same stops),
      )

  -- what stops in lines stops in them with others behind
  stops_in_front : (lines more : List JournalLine) (i : Institution) (place : ℕ) (why : Stop)
      → StopsBefore until i lines place why → StopsBefore until i (lines ++ more) place why
  stops_in_front [] more i place why s = absurd s
  stops_in_front (x ∷ xs) more i zero why s = s
  stops_in_front (x ∷ xs) more i (suc place) why s = (s.0, s.1, s.2, stops_in_front xs more s.1 place why s.3)

  -- what stops comes before the day
  stops_early : (lines : List JournalLine) (i : Institution) (place : ℕ) (why : Stop)
      → StopsBefore until i lines place why → i.catalogue.day < until
  stops_early [] i place why s = absurd s
  stops_early (x ∷ xs) i zero why s = s.0
  stops_early (x ∷ xs) i (suc place) why s = s.0

  -- what stops behind lines that played
  stops_after : (done lines : List JournalLine) (i : Institution) (place : ℕ) (why : Stop)
      → PlayBefore until i done → StopsBefore until (told_before until done i) lines place why
      → StopsBefore until i (done ++ lines) (length done + place) why
  stops_after [] lines i place why plays s =
      let same : place ≡ 0 + place = omega arith in subst (λ n. StopsBefore until i lines n why) same s
  stops_after (x ∷ xs) lines i place why plays s =
      let began = begins_early (run_told (x ∷ xs)) i
      (stops_early lines (told_before until (x ∷ xs) i) place why s) in
      let one = plays began in
      let same = first_played i one.0 x xs one.1 began in
      let step : suc (length xs + place) ≡ length (x ∷ xs) + place = omega arith in
      subst (λ n. StopsBefore until i (x ∷ (xs ++ lines)) n why) step (
        began,
        one.0,
        one.1,
        stops_after xs lines one.0 place why one.2 (subst (λ j. StopsBefore until j lines place why) same s),
      )

  -- what stops in a page stops in the lines behind those that were played
  pub stops_behind : (i : Institution) (done page more : List JournalLine) (place : ℕ) (why : Stop)
      → PlayBefore until i done → StopsBefore until (told_before until done i) page place why
      → StopsBefore until i (done ++ (page ++ more)) (length done + place) why
  stops_behind i done page more place why plays s =
      stops_after done (page ++ more) i place why plays
      (stops_in_front page more (told_before until done i) place why s)

  -- ---- one line

  module _ {S : Type 0} (store : Ghosts S) (l : JournalLine) (today : ℕ) (old mid : S)
      (reads : Reads store.stands store.clean store.leaves (λ i. i.catalogue.day) old mid (Ok today)) where
    its_day : (i : Institution) → today ≡ i.catalogue.day → nat_lt today until ≡ true → i.catalogue.day < until
    its_day i is early = early_of i.catalogue.day (ap (λ d. nat_lt d until) (sym is) ∙ early)

    -- the line is played
    pub line_ends : (new : S) (result : Result (Result (Unit {0}) Stop) Fault) → nat_lt today until ≡ true
        → PlaysLine store l mid new result → IfOk result (EndsLine store until l old new)
    line_ends new (Ok (Ok done)) early plays = record {
      premise = λ k. reads.premise (plays.premise k);
      came = λ k i s.
          let before = plays.premise k in
          let went = plays.came k i (reads.same before i s) in
          let day = its_day i (reads.value_is before i s) early in (
            subst (store.stands new) (sym (one_played i went.0 l went.1 day)) went.2,
            λ still. (went.0, went.1, tt),
          );
    }
    line_ends new (Ok (Err why)) early plays = record {
      premise = λ k. reads.premise (plays.premise k);
      came = λ k i s.
          let before = plays.premise k in
          (its_day i (reads.value_is before i s) early, (plays.came k i (reads.same before i s)).0);
    }
    line_ends new (Err fault) early plays = tt

    -- it is passed over
    pub line_passed : nat_lt today until ≡ false → EndsLine store until l old mid (Ok tt)
    line_passed late = record {
      premise = reads.premise;
      came = λ k i s.
          let day = ap (λ d. nat_lt d until) (sym (reads.value_is k i s)) ∙ late in (
            subst (store.stands mid) (sym (past (run_told (l ∷ [])) i day)) (reads.same k i s),
            λ early. absurd (not_both i.catalogue.day day early),
          );
    }

-- ---- line by line

-- the first lines with the next
next_taken : (lines : List JournalLine) (place : ℕ) (l : JournalLine) → slice_get lines place ≡ Some l
    → take place lines ++ l ∷ [] ≡ take (suc place) lines
next_taken [] place l there = cc
next_taken (x ∷ xs) zero l there = let same : x ≡ l = cc in ap (λ y. y ∷ []) (sym same)
next_taken (x ∷ xs) (suc place) l there = ap (λ ls. x ∷ ls) (next_taken xs place l there)

-- the line at a row's place
line_there : (rows : List JournalRow) (place : ℕ) (row : JournalRow) → slice_get rows place ≡ Some row
    → slice_get (map line_of_row rows) place ≡ Some (line_of_row row)
line_there rows place row there = slice_get-map line_of_row rows place ∙ ap (option_map line_of_row) there

module _ {S : Type 0} (store : Ghosts S) (until : ℕ) where
  -- the rows before a place played, as far as they come before the day, and the store stands for what they lead to
  pub record HaveEnded (rows : List JournalRow) (place : ℕ) (old now : S) : Type 0 where
    pub premise : store.clean now → store.clean old
    pub plays : store.clean now → (i : Institution) → store.stands old i
        → PlayBefore until i (take place (map line_of_row rows))
    pub reached : store.clean now → (i : Institution) → store.stands old i
        → store.stands now (told_before until (take place (map line_of_row rows)) i)

  pub none_yet : (rows : List JournalRow) (old : S) → HaveEnded rows 0 old old
  none_yet rows old = record {
    premise = λ k. k;
    plays = λ k i s. subst (PlayBefore until i) (sym (none rows)) tt;
    reached = λ k i s. subst (λ ls. store.stands old (told_before until ls i)) (sym (none rows)) s;
  }
    where
      none : (rs : List JournalRow) → take 0 (map line_of_row rs) ≡ []
      none [] = refl
      none (r ∷ rs) = refl

  pub ended_more : (rows : List JournalRow) (place : ℕ) (row : JournalRow) (old now new : S)
      → slice_get rows place ≡ Some row → HaveEnded rows place old now
      → EndsLine store until (line_of_row row) now new (Ok tt) → HaveEnded rows (place + 1) old new
  ended_more rows place row old now new there so one =
      let lines = map line_of_row rows in
      let l = line_of_row row in
      let first = take place lines in
      let more = next_taken lines place l (line_there rows place row there) in
      let step : suc place ≡ place + 1 = omega arith in
      subst (λ p. HaveEnded rows p old new) step (record {
        premise = λ k. so.premise (one.premise k);
        plays = λ k i s.
            let early = one.premise k in
            subst (PlayBefore until i) more (plays_parted until first (l ∷ []) i (so.plays early i s)
            (one.came k (told_before until first i) (so.reached early i s)).1);
        reached = λ k i s.
            subst (store.stands new) (sym (parted until first (l ∷ []) i) ∙ ap (λ ls. told_before until ls i) more)
            (one.came k (told_before until first i) (so.reached (one.premise k) i s)).0;
      })

  pub stopped_there : (rows : List JournalRow) (place : ℕ) (row : JournalRow) (why : Stop) (old now new : S)
      → slice_get rows place ≡ Some row → HaveEnded rows place old now
      → EndsLine store until (line_of_row row) now new (Err why)
      → EndsLines store until (map line_of_row rows) old new (Err (place, why))
  stopped_there rows place row why old now new there so one = record {
    premise = λ k. so.premise (one.premise k);
    came = λ k i s.
        let early = one.premise k in
        let lines = map line_of_row rows in
        let stop = one.came k (told_before until (take place lines) i) (so.reached early i s) in
        stops_here until lines place (line_of_row row) i why (line_there rows place row there) (so.plays early i s)
        stop.0 stop.1;
  }

  pub all_ended : (rows : List JournalRow) (place : ℕ) (old new : S) → length rows ≡ place
      → HaveEnded rows place old new → EndsLines store until (map line_of_row rows) old new (Ok tt)
  all_ended rows place old new all so =
      let lines = map line_of_row rows in
      let whole : take place lines ≡ lines =
      ap (λ p. take p lines) (sym (length-map rows line_of_row ∙ all)) ∙ take-length lines in
      record {
        premise = so.premise;
        came = λ k i s. (
          subst (λ ls. store.stands new (told_before until ls i)) whole (so.reached k i s),
          subst (PlayBefore until i) whole (so.plays k i s),
        );
      }

-- ---- the play of all lines

-- what stops before a day stops the play
pub stops_at : (until : ℕ) (lines : List JournalLine) (i : Institution) (place : ℕ) (why : Stop)
    → StopsBefore until i lines place why → StopsAt i lines place why
stops_at until [] i place why s = absurd s
stops_at until (x ∷ xs) i zero why s =
    record { reached = i; before = refl; line = x; there = refl; stops = s.1 }
stops_at until (x ∷ xs) i (suc place) why s =
    let rest = stops_at until xs s.1 place why s.3 in
    record {
      reached = rest.reached;
      before = (s.1, s.2, rest.before);
      line = rest.line;
      there = rest.there;
      stops = rest.stops;
    }

-- lines that play to their end play before any day
pub plays_before : (until : ℕ) (lines : List JournalLine) (i j : Institution) → PlaysTo i lines j
    → PlayBefore until i lines
plays_before until [] i j p = tt
plays_before until (x ∷ xs) i j p = λ early. (p.0, p.1, plays_before until xs p.0 j p.2)

-- ---- two days

-- what stops before a day stops before a later one
pub stops_later : (until later : ℕ) → until ≤ later → (lines : List JournalLine) (i : Institution) (place : ℕ)
    (why : Stop) → StopsBefore until i lines place why → StopsBefore later i lines place why
stops_later until later low [] i place why s = absurd s
stops_later until later low (x ∷ xs) i zero why s = let early = s.0 in (omega (arith, early, low), s.1)
stops_later until later low (x ∷ xs) i (suc place) why s =
    let early = s.0 in
    (omega (arith, early, low), s.1, s.2, stops_later until later low xs s.1 place why s.3)

-- ---- the end of the day before

pub end_of_day_before : (day : ℕ) (lines : List Line) (i : Institution)
    → before_day (day + 1) lines i ≡ at_end_of day lines i
end_of_day_before day [] i = refl
end_of_day_before day (l ∷ ls) i =
    let same : nat_lt i.catalogue.day (day + 1) ≡ nat_le i.catalogue.day day = grind (arith, nat_tests) in
    ap (λ b. cond b (before_day (day + 1) ls (next l i)) i) same
    ∙ ap (λ j. cond (nat_le i.catalogue.day day) j i) (end_of_day_before day ls (next l i))
