-- Lines of a sheet answered one after another, and the records of their results.
use Rattle.std.proofs.Common.{◌≡◌, ◌≢◌, inl, inr, ℕ, ◌+◌, ◌<◌, List, [], ◌∷◌, ◌++◌, length, take, refl, sym, ap, ◌∙◌}
use Rattle.std.proofs.Common.{subst, arith, append_assoc, append-nil, length-append, Option}
use Rattle.std.specs.Io.KnownBytes.{Appends}
use Rattle.std.proofs.KnownBytes.{Appends-trans, Appends-nil}
use Rattle.mf_base.specs.declared.fault.Fault.TheVariants.{F20}
use Rattle.mf_sheet_lines.specs.Results.{heading, record_text, records_text}
use Rattle.mf_sheet_lines.specs.declared.results.SheetResult.{SheetResult}
use Rattle.mf_sheet_lines.specs.declared.results.SheetResult.TheVariants.{Refused}
use Rattle.mf_sheet.specs.Runs.{NoResultIsF20, AnswersEach}
use Rattle.mf_sheet.specs.Ends.{SheetStreams, sheet_text, EndsWhole, CutsRecord}

abbrev pub Rows : Type 0
Rows = List (List (List ℕ))

AnswersEach-append : {S : Type 0} (step : S → List (List ℕ) → SheetResult → S → Type 0) (old mid new : S) (rows : Rows)
    (results : List SheetResult) (more : Rows) (others : List SheetResult) → AnswersEach step old rows results mid
    → AnswersEach step mid more others new → AnswersEach step old (rows ++ more) (results ++ others) new
AnswersEach-append step old mid new [] [] more others p q = subst (λ s. AnswersEach step s more others new) p q
AnswersEach-append step old mid new [] (r ∷ rs) more others p q = absurd p
AnswersEach-append step old mid new (f ∷ rows) [] more others p q = absurd p
AnswersEach-append step old mid new (f ∷ rows) (r ∷ rs) more others p q =
    (p.0, p.1, AnswersEach-append step p.0 mid new rows rs more others p.2 q)

AnswersEach-each : {S : Type 0} (step : S → List (List ℕ) → SheetResult → S → Type 0) (old new : S) (rows : Rows)
    (results : List SheetResult) → AnswersEach step old rows results new → length results ≡ length rows
AnswersEach-each step old new [] [] p = refl
AnswersEach-each step old new [] (r ∷ rs) p = absurd p
AnswersEach-each step old new (f ∷ rows) [] p = absurd p
AnswersEach-each step old new (f ∷ rows) (r ∷ rs) p = let e = AnswersEach-each step p.0 new rows rs p.2
    in omega (arith, e)

-- of the records only those of the lines that were answered count
records_front : (done rest : Rows) (results : List SheetResult) → length results ≡ length done
    → records_text (done ++ rest) results ≡ records_text done results
records_front [] rest [] e = refl
records_front [] rest (r ∷ rs) e = absurd (omega (arith, e))
records_front (f ∷ done) rest [] e = refl
records_front (f ∷ done) rest (r ∷ rs) e =
    ap (λ text. record_text f r ++ text) (records_front done rest rs (omega (arith, e)))

records_more : (done : Rows) (f : List (List ℕ)) (results : List SheetResult) (r : SheetResult) → length results
    ≡ length done → records_text (done ++ f ∷ []) (results ++ r ∷ []) ≡ records_text done results ++ record_text f r
records_more [] f [] r e = append-nil (record_text f r)
records_more [] f (s ∷ rs) r e = absurd (omega (arith, e))
records_more (g ∷ done) f [] r e = absurd (omega (arith, e))
records_more (g ∷ done) f (s ∷ rs) r e =
    ap (λ text. record_text g s ++ text) (records_more done f rs r (omega (arith, e)))
    ∙ sym (append_assoc (record_text g s) (records_text done rs) (record_text f r))

none_more : (results : List SheetResult) (r : SheetResult) → NoResultIsF20 results → r ≢ Refused F20
    → NoResultIsF20 (results ++ r ∷ [])
none_more [] r h n = (n, tt)
none_more (s ∷ rs) r h n = (h.0, none_more rs r h.1 n)

-- the lines so far, each with its record written whole
pub record Going {S : Type 0} (step : S → List (List ℕ) → SheetResult → S → Type 0) (old now : S) (done : Rows)
    (start after : Option (List ℕ)) (count : ℕ) : Type 0 where
  pub results : List SheetResult
  pub ran : AnswersEach step old done results now
  pub written : Appends start after (records_text done results)
  pub counted : count ≡ length results
  pub none : NoResultIsF20 results

pub Going-start : {S : Type 0} (step : S → List (List ℕ) → SheetResult → S → Type 0) (old : S) (start : Option (List ℕ))
    → Going step old old [] start start 0
Going-start step old start = record { results = []; ran = refl; written = Appends-nil start; counted = refl; none = tt }

module _ {S : Type 0} (step : S → List (List ℕ) → SheetResult → S → Type 0) (old mid new : S) (done : Rows)
    (f : List (List ℕ)) (r : SheetResult) (start between after : Option (List ℕ)) (count : ℕ) where
  one_more : Going step old mid done start between count → step mid f r new → (results : List SheetResult)
      → AnswersEach step old done results mid → AnswersEach step old (done ++ f ∷ []) (results ++ r ∷ []) new
  one_more going s results ran = AnswersEach-append step old mid new done results (f ∷ []) (r ∷ []) ran (new, s, refl)

  pub Going-more : Going step old mid done start between count → step mid f r new → Appends between after
      (record_text f r) → r ≢ Refused F20 → Going step old new (done ++ f ∷ []) start after (count + 1)
  Going-more going s w n = record {
    results = going.results ++ r ∷ [];
    ran = one_more going s going.results going.ran;
    written = subst (Appends start after)
        (sym (records_more done f going.results r (AnswersEach-each step old mid done going.results going.ran)))
        (Appends-trans start between after _ _ going.written w);
    counted = omega (arith, going.counted, length-append going.results (r ∷ []));
    none = none_more going.results r going.none n;
  }

-- what is left of the sheet, one line on
pub one_taken : (rows done left more : Rows) (f : List (List ℕ)) → rows ≡ done ++ left → left ≡ f ∷ more → rows ≡ done
    ++ f ∷ more
one_taken rows done left more f e step = e ∙ ap (λ l. done ++ l) step

pub one_done : (rows done more : Rows) (f : List (List ℕ)) → rows ≡ done ++ f ∷ more → rows ≡ (done ++ f ∷ []) ++ more
one_done rows done more f e = e ∙ sym (append_assoc done (f ∷ []) more)

none_left : (left : Rows) → length left ≡ 0 → left ≡ []
none_left [] e = refl
none_left (f ∷ left) e = absurd (omega arith)

pub all_done : (rows done left : Rows) → rows ≡ done ++ left → length left ≡ 0 → rows ≡ done
all_done rows done left e h = e ∙ ap (λ l. done ++ l) (none_left left h) ∙ append-nil done

-- a line that is still to come leaves room to count it
pub count_below : {S : Type 0} (step : S → List (List ℕ) → SheetResult → S → Type 0) (old now : S)
    (rows done more : Rows) (f : List (List ℕ)) (start after : Option (List ℕ)) (count : ℕ) → rows ≡ done ++ f ∷ more
    → Going step old now done start after count → count < length rows
count_below step old now rows done more f start after count e going =
    let each = AnswersEach-each step old now done going.results going.ran in
    let long : length rows ≡ length (done ++ f ∷ more) = ap length e in
    omega (arith, going.counted, each, long, length-append done (f ∷ more))

-- all that was written, behind the heading
sheet_written : (done rest rows : Rows) (results : List SheetResult) (before start after : Option (List ℕ))
    → rows ≡ done ++ rest → length results ≡ length done → Appends before start heading
    → Appends start after (records_text done results) → Appends before after (sheet_text rows results)
sheet_written done rest rows results before start after among each first then =
    subst (λ text. Appends before after (heading ++ text)) (sym (ap (λ all. records_text all results) among
    ∙ records_front done rest results each)) (Appends-trans before start after heading (records_text done results)
    first then)

module _ {S : Type 0} (step : S → List (List ℕ) → SheetResult → S → Type 0) (old : S) (streams : SheetStreams)
    (done : Rows) (start : Option (List ℕ)) (count : ℕ) (first : Appends streams.sink.before start heading) where
  pub ends_whole : (new : S) → streams.rows ≡ done → streams.sink.faults_after ≡ streams.sink.faults_before
      → Going step old new done start streams.sink.after count → EndsWhole (AnswersEach step) old new streams
  ends_whole new among sound going =
      let each = AnswersEach-each step old new done going.results going.ran in
      let all : streams.rows ≡ done ++ [] = among ∙ sym (append-nil done) in
      record {
        done = done;
        rest = [];
        among = all;
        results = going.results;
        each = each;
        ran = going.ran;
        all = inl (refl, going.none);
        written = sheet_written done [] streams.rows going.results streams.sink.before start streams.sink.after all each
            first going.written;
        sink = sound;
      }

  module _ (mid new : S) (f : List (List ℕ)) (r : SheetResult) (rest : Rows) (between : Option (List ℕ))
      (among : streams.rows ≡ done ++ f ∷ rest) (s : step mid f r new) where
    pub ends_in_F20 : streams.sink.faults_after ≡ streams.sink.faults_before → r ≡ Refused F20
        → Appends between streams.sink.after (record_text f r) → Going step old mid done start between count
        → EndsWhole (AnswersEach step) old new streams
    ends_in_F20 sound is w going =
        let before = AnswersEach-each step old mid done going.results going.ran in
        let ran = AnswersEach-append step old mid new done going.results (f ∷ []) (r ∷ []) going.ran (new, s, refl) in
        let each = AnswersEach-each step old new (done ++ f ∷ []) (going.results ++ r ∷ []) ran in
        let all : streams.rows ≡ (done ++ f ∷ []) ++ rest = among ∙ sym (append_assoc done (f ∷ []) rest) in
        record {
          done = done ++ f ∷ [];
          rest = rest;
          among = all;
          results = going.results ++ r ∷ [];
          each = each;
          ran = ran;
          all = inr (going.results, ap (λ x. going.results ++ x ∷ []) is, going.none);
          written = sheet_written (done ++ f ∷ []) rest streams.rows (going.results ++ r ∷ []) streams.sink.before start
              streams.sink.after all each first
              (subst (Appends start streams.sink.after) (sym (records_more done f going.results r before))
              (Appends-trans start between streams.sink.after _ _ going.written w));
          sink = sound;
        }

    pub cuts_record : (part : ℕ) → part < length (record_text f r) → Appends between streams.sink.after (take part
        (record_text f r)) → Going step old mid done start between count
        → CutsRecord (AnswersEach step) old new streams count
    cuts_record part short w going =
        let each = AnswersEach-each step old mid done going.results going.ran in
        record {
          done = done;
          fields = f;
          rest = rest;
          among = among;
          results = going.results;
          result = r;
          each = each;
          ran = AnswersEach-append step old mid new done going.results (f ∷ []) (r ∷ []) going.ran (new, s, refl);
          without_F20 = going.none;
          part = part;
          short = short;
          written = Appends-trans streams.sink.before between streams.sink.after _ _ (sheet_written done (f ∷ rest)
              streams.rows going.results streams.sink.before start between among each first going.written) w;
          counted = going.counted;
        }
