-- What rows that are taken one at a time leave of the connection that gives them.
use Rattle.std.proofs.Common.{◌≡◌, pos, Bool, false, map, filter, IsTrue, IfOk}
use Rattle.std.proofs.Common.{ℕ, Result, IfErr, OnOk, true≢false, inl, inr}
use Rattle.std.proofs.Common.{List, [], ◌∷◌, None, Some, Ok, Err, refl, sym, ap, subst, ◌∙◌, arith, ◌++◌}
use Rattle.std.specs.Result.{IsErr, is_err}
use Rattle.std.proofs.lemmas.Result.{IfErr-weaker, on_ok_weaker}
use Rattle.sqlite.specs.Order.{Row}
use Rattle.sqlite.specs.Effect.{Database}
use Rattle.sqlite.specs.Given.{HasGiven, HasBegun, IsPlain, Advances}
use Rattle.sqlite.specs.Held.{Held, state}
use Rattle.sqlite.specs.Listing.{understood, reads_listing, IsSourceOf}
use Rattle.sqlite.specs.State.{State, HasCleanDisk, Survives, Shown, Begins, IsUnchanged, IsNotRun}
use Rattle.sqlite.specs.State.{CommitsShowing}
use Rattle.sqlite.specs.declared.error.Error.{Error}
use Rattle.sqlite.specs.declared.types.Value.TheVariants.{Int}
use Rattle.sqlite.specs.Clock.{timed}
use Rattle.sqlite.proofs.Callers.{given_begin, unchanged_then, begun_plain, begins_shown, command_of, EndsIn}
use Rattle.sqlite.proofs.StateLemmas.{survives_weaker}
use Rattle.mf_arrears.specs.Line.{OfficeLine, line_of_loans}
use Rattle.mf_store_sql.proofs.QueryLemmas.{either_way, not_run_same, crash_prepared, answers_prepared}
use Rattle.mf_store_schema.specs.Calls.{IsKeeping, IsAsBefore}
use Rattle.mf_store_schema.specs.Rows.{Lists, instalment_row, is_instalment_in}
use Rattle.mf_store_schema.specs.Tables.{schema_keeping}
use Rattle.mf_store_schema.specs.Writes.{are_some}
use Rattle.mf_store_schema.proofs.CallLemmas.{unchanged}
use Rattle.mf_store_schema.specs.InstalmentsTexts.{lists_by_1}
use Rattle.mf_store_schema.proofs.RangeLemmas.{instalments_of_office, instalments_of_office_shows}
use Rattle.sqlite_trees.specs.declared.store.Store.{Ghosts}
use Rattle.sqlite.specs.Tree.{Trees}
use Rattle.mf_store_values.specs.Arrears.{NumberedLoan, AreAbove, AreWholeLoans, rows_of_office, aged_loans, IsLineOf}
use Rattle.mf_store_values.specs.Folding.{IsKept, AreWithinSums, IsOver, IsTooGreat, HasTaken, Folds, Refuses}
use Rattle.mf_store_values.specs.declared.fold.NoLine.{NoLine}
use Rattle.mf_store_values.specs.declared.fold.NoLine.TheVariants.{Unread, TooGreat}

both_on_ok : {A E : Type 0} (r : Result A E) (P Q O : Type 0) → OnOk r P → OnOk r O → (P → O → Q) → OnOk r Q
both_on_ok (Ok x) P Q O h o f = f h o
both_on_ok (Err e) P Q O h o f = tt

-- what begins an answer begins it over the same tables
begins_same : (sql : List ℕ) (params : Row) (was is : State) (rows : List Row) → is.now ≡ was.now
    → Begins sql params is rows → Begins sql params was rows
unfolding Begins
begins_same sql params was is rows same h = (
  h.0,
  record {
    is = subst (λ (d : Database). understood d.schema sql ≡ Ok h.0) same h.1.is;
    whole = h.1.whole;
    given = h.1.given;
    now = h.1.now;
  },
  h.2,
  h.3,
  subst (λ (d : Database). IsSourceOf (reads_listing d.schema sql) d h.3) same h.4,
  h.5,
)

-- at Err nothing is owed of an Ok
pub no_ok : {A E : Type 0} (r : Result A E) (P : Type 0) → IsErr r → OnOk r P
no_ok (Ok x) P h = absurd (true≢false (sym h))
no_ok (Err e) P h = tt

-- what holds of each error holds of the one that is answered
pub each_err : {A E : Type 0} (r : Result A E) (P : E → Type 0) → ((e : E) → P e) → IfErr r P
each_err (Ok x) P all = tt
each_err (Err e) P all = all e

pub clean_before : {P : Trees → Type 0} {was is : State} → Survives was is P → HasCleanDisk is → HasCleanDisk was
clean_before survives clean = omega (arith, survives.clean, clean)

unchanged_here : (s : State) → IsTrue s.is_open → IsUnchanged s s
unchanged_here s live = (
  record { was_open = live; is_open = live; now_is = refl; committed_is = refl; mode = refl },
  record { changes = refl; last_rowid = refl },
  refl,
)

pub survives_same : (s : State) → Survives s s (λ _. ⊥)
survives_same s = record {
  clean = omega arith;
  shield = λ is. is;
  counts = omega arith;
  limit = refl;
  closes = λ clean live. inl live;
  crash = λ clean db may. inl may;
}

module _ {S : Type 0} (g : Ghosts S) where
  pub kept_same : (h : Held S) → IsKept g h h
  kept_same h = record { was_open = λ live. live; committed = λ live. refl; now_is = λ live. inl refl }

  pub kept_then : (a b c : Held S) → IsKept g a b → IsKept g b c → IsKept g a c
  kept_then a b c p q = record {
    was_open = λ live. p.was_open (q.was_open live);
    committed = λ live. q.committed live ∙ p.committed (q.was_open live);
    now_is = λ live. elim (q.now_is live) [
      | inr undone ↦ inr (undone ∙ p.committed (q.was_open live))
      | inl same ↦ elim (p.now_is (q.was_open live)) [
        | inl before ↦ inl (same ∙ before)
        | inr undone ↦ inr (same
            ∙ undone)
      ]
    ];
  }

  -- the answer is that of the query, over the tables as they were
  pub given_shown : (sql : List ℕ) (params : Row) (old mid new : Held S) (given rows : List Row)
      → IsUnchanged (state g old) (state g mid) → HasGiven g sql params mid given → Shown sql params (state g mid)
      (state g new) rows → Shown sql params (state g old) (state g new) rows
  unfolding HasGiven Shown
  given_shown sql params old mid new given rows same has shown =
      let both : Ok has.0.found.compiled ≡ Ok shown.0 = sym has.0.statement.is ∙ shown.1.is in
      let compiled : has.0.found.compiled ≡ shown.0 = cc in
      let none : shown.0.returning ≡ None = sym (λ t. (compiled t).returning) ∙ has.1 in
      let it = rw none at shown.2 in (
        shown.0,
        record {
          is = subst (λ (d : Database). understood d.schema sql ≡ Ok shown.0) same.0.now_is shown.1.is;
          whole = shown.1.whole;
          given = shown.1.given;
          now = shown.1.now;
        },
        rw none (
          it.0,
          subst (λ (d : Database). IsSourceOf (reads_listing d.schema sql) d it.0) same.0.now_is it.1,
          it.2,
          unchanged_then (state g old) (state g mid) (state g new) same it.3,
        ),
      )

  -- a query that is asked for its rows one at a time has given these, over the tables as they were
  pub record SoFar (old mid : Held S) (taken : List Row) : Type 0 where
    pub has : HasCleanDisk (state g mid) → (sql : List ℕ) (params : Row) → HasGiven g sql params old []
        → HasGiven g sql params mid taken × IsUnchanged (state g old) (state g mid)

  pub so_far_none : (h : Held S) → SoFar h h []
  unfolding HasGiven
  so_far_none h = record { has = λ clean sql params given. (given, unchanged_here (state g h) given.0.is_open) }

  pub so_far_more : {old mid new : Held S} {taken : List Row} (row : Row) → SoFar old mid taken
      → Survives (state g mid) (state g new) (λ _. ⊥)
      → (HasCleanDisk (state g new) → Advances g mid new (Some row) × IsUnchanged (state g mid) (state g new))
      → SoFar old new (taken ++ row ∷ [])
  so_far_more {old} {mid} {new} {taken} row so_far survives more = record {
    has = λ clean sql params given.
        let was = so_far.has (clean_before survives clean) sql params given in
        let now = more clean in
        (now.0 sql params taken was.0, unchanged_then (state g old) (state g mid) (state g new) was.1 now.1);
  }

  pub so_far_begins : {old mid : Held S} {taken : List Row} → SoFar old mid taken → HasCleanDisk (state g mid)
      → (sql : List ℕ) (params : Row) → HasGiven g sql params old [] → Begins sql params (state g old) taken
  so_far_begins {old} {mid} {taken} so_far clean sql params given =
      let was = so_far.has clean sql params given in
      begins_same sql params (state g old) (state g mid) taken was.1.0.now_is (given_begin g sql params mid taken was.0)

  -- what was given is folded, whatever ended it
  module _ {A E : Type 0} (today : ℕ) (empty line : OfficeLine) (r : Result A E) where
    folds_so_far : {old mid new : Held S} {taken : List Row} → SoFar old mid taken
        → (HasCleanDisk (state g new) → HasCleanDisk (state g mid)) → (HasCleanDisk (state g new) → (sql : List ℕ)
        (params : Row) → HasGiven g sql params mid taken × IsUnchanged (state g old) (state g mid)
        → HasTaken g sql params taken old new × OnOk r (Shown sql params (state g old) (state g new) taken))
        → OnOk r (IsLineOf today taken empty line) → Folds g today old new empty line r
    folds_so_far {taken = taken} so_far earlier ends line_is = record {
      taken = taken;
      given = λ clean sql params given. (ends clean sql params (so_far.has (earlier clean) sql params given)).0;
      begins = λ clean. so_far_begins so_far (earlier clean);
      whole = λ clean sql params given. (ends clean sql params (so_far.has (earlier clean) sql params given)).1;
      line_is = line_is;
    }

    -- no more is asked for
    pub folds_given : {old new : Held S} {taken : List Row} → IsErr r → SoFar old new taken
        → Folds g today old new empty line r
    folds_given err so_far =
        folds_so_far so_far (λ clean. clean) (λ clean sql params was. (inl was.0, no_ok r _ err)) (no_ok r _ err)

    -- the query refuses another row
    pub folds_refused : {old mid new : Held S} {taken : List Row} → IsErr r → SoFar old mid taken
        → Survives (state g mid) (state g new) (λ _. ⊥) → Refuses g mid new → Folds g today old new empty line r
    folds_refused err so_far survives (inl more) = folds_given err (so_far_more more.0 so_far survives more.1)
    folds_refused {mid = mid} {taken = taken} err so_far survives (inr fails) =
        folds_so_far so_far (clean_before survives) (λ clean sql params was. (let failed = fails clean in (
          inr (inr (mid, was.0, was.1, (failed.0, failed.1 sql params taken was.0))),
          no_ok r _ err,
        ))) (no_ok r _ err)

    -- the query has no other row
    pub folds_shown : {old mid new : Held S} {taken : List Row} → SoFar old mid taken
        → Survives (state g mid) (state g new) (λ _. ⊥) → (HasCleanDisk (state g new) → Advances g mid new None)
        → OnOk r (IsLineOf today taken empty line) → Folds g today old new empty line r
    folds_shown {old} {mid} {new} {taken} so_far survives ends line_is =
        folds_so_far so_far (clean_before survives) (λ clean sql params was. (let shown : Shown sql params (state g old)
        (state g new) taken = given_shown sql params old mid new taken taken was.1 was.0 (ends clean sql params taken
        was.0) in (inr (inl shown), on_ok_weaker r (λ is. shown) line_is))) line_is

  -- the rows that were given come to too much
  pub given_great : {A : Type 0} {old mid : Held S} {taken : List Row} (new : Held S) (empty : OfficeLine)
      (r : Result A NoLine) → SoFar old mid taken → (HasCleanDisk (state g new) → HasCleanDisk (state g mid))
      → IsOver taken empty → IfErr r (IsTooGreat g old new empty)
  given_great {taken = taken} new empty r so_far earlier over =
      each_err r _ (λ why great clean sql params given. (
        taken,
        so_far_begins so_far (earlier clean) sql params given,
        over,
      ))

  -- what could not be read was not too great
  pub unread_sums : (old new : Held S) (empty : OfficeLine) (why : NoLine) → why ≡ Unread
      → IsTooGreat g old new empty why
  unread_sums old new empty why is great = absurd (cc)

  -- what was folded of a plain query, and what was too great of it
  module _ (sql : List ℕ) (params : Row) (old mid new : Held S) (plain : IsPlain (understood old.schema sql))
      (begun : HasCleanDisk (state g mid) → HasBegun g sql params old mid)
      (survives : Survives (state g mid) (state g new) (λ _. ⊥)) (clean : HasCleanDisk (state g new)) where
    began : HasGiven g sql params mid [] × IsUnchanged (state g old) (state g mid)
    began = begun_plain g sql params old mid plain (begun (clean_before survives clean))

    pub folded_line : {A E : Type 0} (today : ℕ) (empty line : OfficeLine) (r : Result A E)
        → Folds g today mid new empty line r → OnOk r ((taken : List Row)
        × Shown sql params (state g old) (state g new) taken × IsLineOf today taken empty line)
    folded_line today empty line r folds =
        both_on_ok r (Shown sql params (state g mid) (state g new) folds.taken) _ (IsLineOf today folds.taken empty
        line) (folds.whole clean sql params began.0) folds.line_is (λ shown is. (
          folds.taken,
          given_shown sql params old mid new [] folds.taken began.1 began.0 shown,
          is,
        ))

    pub folded_sums : {A : Type 0} (empty : OfficeLine) (r : Result A NoLine) → IfErr r (IsTooGreat g mid new empty)
        → IfErr r (λ why. why ≡ TooGreat → (taken : List Row) × Begins sql params (state g old) taken
        × IsOver taken empty)
    folded_sums empty r sums = IfErr-weaker r _ _ (λ why over great. (let it = over great clean sql params began.0 in
        (it.0, begins_same sql params (state g old) (state g mid) it.0 began.1.0.now_is it.1, it.2))) sums

-- ---- a query after an empty statement was prepared

pub prepared_ok : {A : Type 0} (P : A → Type 0) (Q : Type 0) (r : Result A Error) → is_err r ≡ false
    → IfOk r (λ s. P s × Q) → Q
prepared_ok P Q (Ok x) e h = h.1
prepared_ok P Q (Err x) e h = absurd (true≢false e)

-- where it could not be prepared, nothing is changed
pub unprepared : {A : Type 0} (P : A → Type 0) (text sql : List ℕ) (old new : State) (r : Result A Error)
    → ((journaled : Bool) → IsPlain (understood (schema_keeping journaled) text)) → (IsTrue old.is_open → old.now ≡
    old.committed)
    → (HasCleanDisk new → IfOk r (λ s. P s × IsUnchanged old new))
    → (HasCleanDisk new → IfErr r (λ e. (params : Row) → IsNotRun old new sql params e)) → Survives old new (λ _. ⊥)
    → IsAsBefore old new
unprepared P text sql old new r plain settled ok err survives =
    let same : HasCleanDisk new → IsTrue new.is_open → IsTrue old.is_open × (new.now ≡ old.now) =
    λ clean live. either_way r (λ s. P s × IsUnchanged old new) _ _ (λ s h. (h.1.0.was_open, h.1.0.now_is))
    (λ e h. not_run_same old new sql [] e settled live (h [])) (ok clean) (err clean) in
    unchanged old new text plain (λ clean live bare. (same clean live).1) (λ clean live. (same clean live).0)
    (survives_weaker old new (λ _. ⊥) _ (λ clean db none. absurd none) survives)

plain_mid : (sql : List ℕ) (old mid : State) → IsUnchanged old mid → IsPlain (understood old.now.schema sql)
    → IsPlain (understood mid.now.schema sql)
plain_mid sql old mid same plain = subst (λ (d : Database). IsPlain (understood d.schema sql)) (sym same.0.now_is) plain

-- a plain query that was folded changes nothing
pub folded_unchanged : {A : Type 0} (P : A → Type 0) (sql : List ℕ) (params : Row) (old mid new : State)
    (r : Result A Error) → ((journaled : Bool) → IsPlain (understood (schema_keeping journaled) sql)) → (IsTrue
    old.is_open → old.now ≡ old.committed)
    → is_err r ≡ false → (HasCleanDisk mid → IfOk r (λ s. P s × IsUnchanged old mid)) → Survives old mid (λ _. ⊥)
    → Survives mid new (CommitsShowing sql params mid)
    → (HasCleanDisk new → IsPlain (understood mid.now.schema sql) → (IsTrue mid.is_open → mid.now ≡ mid.committed)
    → IsTrue new.is_open → new.now ≡ mid.now) → IsAsBefore old new
folded_unchanged P sql params old mid new r plain settled fine ok first second same =
    let prepared : HasCleanDisk mid → IsUnchanged old mid = λ early. prepared_ok P _ r fine (ok early) in
    unchanged old new sql plain
    (λ clean live bare. let it = prepared (clean_before second clean) in same clean (plain_mid sql old mid it
    bare) (λ was. it.0.now_is ∙ settled it.0.was_open ∙ sym it.0.committed_is) live ∙ it.0.now_is)
    (λ clean live. (prepared (clean_before second clean)).0.was_open)
    (crash_prepared sql params old mid new prepared first second)

-- ---- the instalments of an office, as the tables keep them

module _ (lists : Lists) (old mid : State) (same : IsUnchanged old mid) (keeping : IsKeeping old lists) where
  -- the rows that were taken are those that the tables keep of the office
  taken_rows : (office : ℕ) (new : State) (taken : List Row)
      → Shown instalments_of_office (Int (pos office) ∷ []) mid new taken
      → taken ≡ map instalment_row (filter (is_instalment_in office) lists.instalments)
  taken_rows office new taken shown =
      let kept = keeping same.0.was_open in
      instalments_of_office_shows (are_some lists.journal) office old.now taken lists.instalments kept.schema_is
      kept.holds.all.1.1.1.1.1.1.1.1.1.0
      (answers_prepared instalments_of_office (Int (pos office) ∷ []) old mid new taken same shown)

  -- the text is a plain one under the tables of this program
  pub plain_kept : IsPlain (understood mid.now.schema instalments_of_office)
  plain_kept = plain_mid instalments_of_office old mid same (subst (λ k. IsPlain (understood k instalments_of_office))
      (sym (keeping same.0.was_open).schema_is) (lists_by_1 (are_some lists.journal)).plain)

  module _ (office : ℕ) (loans : List NumberedLoan) (empty : OfficeLine) (above : AreAbove 0 loans)
      (whole : AreWholeLoans loans)
      (are : filter (is_instalment_in office) lists.instalments ≡ rows_of_office office loans)
      (is_new : empty ≡ line_of_loans office []) where
    -- the line of an office's loans
    pub line_read : (today : ℕ) (new : State) (line : OfficeLine) → ((taken : List Row)
        × Shown instalments_of_office (Int (pos office) ∷ []) mid new taken × IsLineOf today taken empty line)
        → line ≡ line_of_loans office (aged_loans today loans)
    line_read today new line told = told.2 office loans above whole (taken_rows office new told.0 told.1
        ∙ ap (map instalment_row) are) is_new

    -- an office's loans within the bounds are not too great
    pub never_great : (why : NoLine) → AreWithinSums loans → (why ≡ TooGreat → (taken : List Row)
        × Begins instalments_of_office (Int (pos office) ∷ []) mid taken × IsOver taken empty) → why ≡ Unread
    never_great Unread within over = refl
    never_great TooGreat within over =
        let it = over refl in
        let schema_is = ap (λ (d : Database). d.schema) same.0.now_is ∙ (keeping same.0.was_open).schema_is in
        let all = begins_shown instalments_of_office (Int (pos office) ∷ []) mid mid it.0 it.1
        (unchanged_here mid same.0.is_open)
        (λ c db is source. subst (λ k. EndsIn k db (timed (Int (pos office) ∷ []) c.formats is.now))
        (sym (lists_by_1 (are_some lists.journal)).is ∙ sym (ap (λ s. command_of (understood s instalments_of_office))
        schema_is)
        ∙ ap command_of is.is) tt) in
        absurd (it.2 office loans all.0 above whole within (taken_rows office mid (it.0 ++ all.0) all.1
        ∙ ap (map instalment_row) are) is_new)
