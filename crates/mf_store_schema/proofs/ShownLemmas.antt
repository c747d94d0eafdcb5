-- Rows of a query that are read one at a time.
use Rattle.std.proofs.Common.{◌≡◌, ◌++◌, ℕ, false, List, [], ◌∷◌, Option, Some, None, Vec, Global}
use Rattle.std.proofs.Common.{Result, Ok, Err, IfOk, IfErr, IsTrue, inl}
use Rattle.std.proofs.Common.{refl, sym, ◌∙◌, subst, arith, le_refl}
use Rattle.sqlite.specs.Order.{Row}
use Rattle.sqlite.specs.Effect.{Database}
use Rattle.sqlite.specs.Given.{HasGiven, HasBegun, Advances}
use Rattle.sqlite.specs.Held.{Held, state}
use Rattle.sqlite.specs.Listing.{understood}
use Rattle.sqlite.specs.State.{State, HasCleanDisk, IsUnchanged, Survives, Shown, FailsToQuery, IsNotRun}
use Rattle.sqlite.specs.State.{CommitsShowing}
use Rattle.sqlite.specs.declared.error.Error.{Error}
use Rattle.sqlite.proofs.Callers.{IsPlain, command_of, reads_as, begun_plain}
use Rattle.sqlite.proofs.StateLemmas.{survives_then}
use Rattle.sqlite_trees.specs.declared.store.Store.{Ghosts}
use Rattle.mf_store_sql.specs.Queries.{Answers}
use Rattle.mf_store_sql.proofs.QueryLemmas.{either_way, not_run_same, refused_same, crash_prepared}
use Rattle.mf_store_sql.specs.Columns.{Named}
use Rattle.mf_store_schema.specs.Read.{AreRead}

-- the database is as it was, and the connection is not opened anew
pub record IsSame (old new : State) : Type 0 where
  pub now_is : new.now ≡ old.now
  pub committed_is : new.committed ≡ old.committed
  pub was_open : IsTrue new.is_open → IsTrue old.is_open

same_then : (a b c : State) → IsSame a b → IsUnchanged b c → IsSame a c
same_then a b c p q = record {
  now_is = q.0.now_is ∙ p.now_is;
  committed_is = q.0.committed_is ∙ p.committed_is;
  was_open = λ live. p.was_open q.0.was_open;
}

-- rows that a query showed over a database are its answer over an equal one
answers_of : (sql : List ℕ) (params : Row) (old mid new : State) (rows : List Row) → mid.now ≡ old.now
    → Shown sql params mid new rows → Answers sql params old.now rows
answers_of sql params old mid new rows same h =
    let whole : Answers sql params mid.now rows = λ plain unlisted. reads_as sql params mid new mid.now.schema refl
    (command_of (understood mid.now.schema sql)) refl plain unlisted rows h in
    subst (λ d. Answers sql params d rows) same whole

module _ {S X : Type 0} (g : Ghosts S) (stored : X → Row) (columns : List Named) where
  -- the rows so far were read into these records, since the connection was like this
  pub record IsUnderWay (old now : Held S) (records : Option (Vec X Global)) : Type 0 where
    pub mode : old.in_transaction ≡ false → now.in_transaction ≡ false
    pub survives : Survives (state g old) (state g now) (λ _. ⊥)
    pub same : HasCleanDisk (state g now) → IsSame (state g old) (state g now)
    pub given : List Row
    pub read : AreRead stored columns records given
    pub runs : HasCleanDisk (state g now) → (sql : List ℕ) (params : Row) → HasGiven g sql params old []
        → HasGiven g sql params now given

  early : (old new : State) → Survives old new (λ _. ⊥) → HasCleanDisk new → HasCleanDisk old
  early old new survives clean = omega (arith, survives.clean, clean)

  -- no row was asked for
  pub begin : (old : Held S) (records : Option (Vec X Global)) → AreRead stored columns records []
      → IsUnderWay old old records
  begin old records read = record {
    mode = λ alone. alone;
    survives = record {
      clean = le_refl _;
      shield = λ h. h;
      counts = le_refl _;
      limit = refl;
      closes = λ clean live. inl live;
      crash = λ clean db may. inl may;
    };
    same = λ clean. record { now_is = refl; committed_is = refl; was_open = λ live. live };
    given = [];
    read = read;
    runs = λ clean sql params runs. runs;
  }

  module _ (old now next : Held S) (before : Option (Vec X Global)) (way : IsUnderWay old now before)
      (survives : Survives (state g now) (state g next) (λ _. ⊥)) where
    -- one more row came, and was read
    pub one_more : (after : Option (Vec X Global)) (row : Row) → (now.in_transaction ≡ false → next.in_transaction
        ≡ false) → (HasCleanDisk (state g next) → IsUnchanged (state g now) (state g next))
        → (HasCleanDisk (state g next) → Advances g now next (Some row))
        → ((rows : List Row) → AreRead stored columns before rows → AreRead stored columns after (rows ++ row ∷ []))
        → IsUnderWay old next after
    one_more after row mode kept advances reads = record {
      mode = λ alone. mode (way.mode alone);
      survives = survives_then (state g old) (state g now) (state g next) (λ _. ⊥) (λ _. ⊥) (λ _. ⊥)
          (λ clean db none. none) (λ clean db none. none) way.survives survives;
      same = λ clean. same_then (state g old) (state g now) (state g next)
          (way.same (early (state g now) (state g next) survives clean)) (kept clean);
      given = way.given ++ row ∷ [];
      read = reads way.given way.read;
      runs = λ clean sql params runs. advances clean sql params way.given
          (way.runs (early (state g now) (state g next) survives clean) sql params runs);
    }

    -- no more rows came: those that did are the answer
    pub all_shown : HasCleanDisk (state g next) → Advances g now next None → (shown : List Row)
        × AreRead stored columns before shown × ((sql : List ℕ) (params : Row) → HasGiven g sql params old []
        → Answers sql params (state g old).now shown)
    all_shown clean advances =
        let was = early (state g now) (state g next) survives clean in (
          way.given,
          way.read,
          λ sql params runs. answers_of sql params (state g old) (state g now) (state g next) way.given
              (way.same was).now_is
              (advances sql params way.given (way.runs was sql params runs)),
        )

-- ---- an empty statement was prepared before the text asks

module _ {A : Type 0} (r : Result A Error) (P : A → Type 0) (old new : State) (sql : List ℕ)
    (ok : IfOk r (λ a. P a × IsUnchanged old new)) (err : IfErr r (λ e. (params : Row) → IsNotRun old new sql params e))
    (settled : IsTrue old.is_open → old.now ≡ old.committed) (live : IsTrue new.is_open) where
  -- whether it is refused or not
  pub prepared : IsTrue old.is_open × (new.now ≡ old.now)
  prepared = either_way r (λ a. P a × IsUnchanged old new) (λ e. (params : Row) → IsNotRun old new sql params e)
      (IsTrue old.is_open × (new.now ≡ old.now)) (λ a h. (h.1.0.was_open, h.1.0.now_is))
      (λ e h. not_run_same old new sql [] e settled live (h [])) ok err

module _ {S : Type 0} (g : Ghosts S) (sql : List ℕ) (old : State) (mid first last : Held S)
    (was : IsUnchanged old (state g mid)) where
  still_plain : IsPlain (understood old.now.schema sql) → IsPlain (understood mid.schema sql)
  still_plain plain = subst (λ (d : Database). IsPlain (understood d.schema sql)) (sym was.0.now_is) plain

  -- the rows are the answer over the database as it was before
  pub answer_prepared : (shown : List Row) → HasBegun g sql [] mid first → ((sql : List ℕ) (params : Row)
      → HasGiven g sql params first [] → Answers sql params (state g first).now shown) → Answers sql [] old.now shown
  answer_prepared shown begun answers plain =
      let runs = begun_plain g sql [] mid first (still_plain plain) begun in
      let same : (state g first).now ≡ old.now = runs.1.0.now_is ∙ was.0.now_is in
      subst (λ d. Answers sql [] d shown) same (answers sql [] runs.0) plain

  -- so are those that were read
  pub answers_prepared : {V E : Type 0} (R : V → List Row → Type 0) (r : Result V E) → HasBegun g sql [] mid first
      → IfOk r (λ x. (shown : List Row) × R x shown × ((sql : List ℕ) (params : Row) → HasGiven g sql params first []
      → Answers sql params (state g first).now shown)) → IfOk r (λ x. (shown : List Row) × R x shown
      × Answers sql [] old.now shown)
  answers_prepared R (Ok x) begun h = (h.0, h.1, answer_prepared h.0 begun h.2)
  answers_prepared R (Err e) begun h = tt

  -- a plain text changes nothing
  pub same_prepared : IsPlain (understood old.now.schema sql) → HasBegun g sql [] mid first
      → (IsTrue old.is_open → old.now ≡ old.committed) → ((state g first).now ≡ (state g first).committed
      → (state g last).now ≡ (state g first).now) → (state g last).now ≡ old.now
  same_prepared plain begun settled kept =
      let runs = begun_plain g sql [] mid first (still_plain plain) begun in
      let same : (state g first).now ≡ old.now = runs.1.0.now_is ∙ was.0.now_is in
      let settled_first : (state g first).now ≡ (state g first).committed =
      same ∙ settled was.0.was_open ∙ sym was.0.committed_is ∙ sym runs.1.0.committed_is in
      kept settled_first ∙ same

  -- nor does it where it is refused
  pub refused_prepared : (e : Error) → IsPlain (understood old.now.schema sql) → (IsTrue old.is_open → old.now
      ≡ old.committed) → IsTrue (state g last).is_open → FailsToQuery sql [] (state g mid) (state g last) e
      → (state g last).now ≡ old.now
  refused_prepared e plain settled live h =
      refused_same sql [] (state g mid) (state g last) e (still_plain plain) (λ live_mid. was.0.now_is
      ∙ settled was.0.was_open ∙ sym was.0.committed_is) live h
      ∙ was.0.now_is

-- what may be left where rows were read after the text was asked
pub crash_read : (sql : List ℕ) (old mid first last : State) → (HasCleanDisk mid → IsUnchanged old mid)
    → Survives old mid (λ _. ⊥) → Survives mid first (CommitsShowing sql [] mid) → Survives first last (λ _. ⊥)
    → Survives old last (λ _. IsTrue old.is_open × ¬ IsPlain (understood old.now.schema sql))
crash_read sql old mid first last was prepared asked read = crash_prepared sql [] old mid last was prepared
    (survives_then mid first last (CommitsShowing sql [] mid) (λ _. ⊥) (CommitsShowing sql [] mid)
    (λ clean db wrote. wrote) (λ clean db none. absurd none) asked read)
