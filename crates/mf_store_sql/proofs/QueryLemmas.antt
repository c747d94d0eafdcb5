-- A query that writes nothing, and what is read of its rows.
use Rattle.std.proofs.Common.{◌≡◌, inl, inr, subst, ℕ, Option, Some, None, Result, Ok, Err, IfOk, IfErr, refl, arith}
use Rattle.std.proofs.Common.{List, sym, ◌∙◌, IsTrue}
use Rattle.sqlite.specs.Order.{Row}
use Rattle.sqlite.specs.Clock.{timed}
use Rattle.sqlite_schema.specs.declared.command.Returning.{Returning}
use Rattle.sqlite.specs.State.{State, Shown, ShowsRows, FailsToQuery, IsUnchanged, IsNotRun, Fails, CommitsShowing}
use Rattle.sqlite.specs.State.{Survives, HasCleanDisk}
use Rattle.sqlite.specs.declared.error.Error.{Error}
use Rattle.sqlite.specs.Listing.{understood}
use Rattle.sqlite.specs.Effect.{Database}
use Rattle.sqlite.proofs.Callers.{IsPlain, command_of, reads_as, never_commits}
use Rattle.sqlite.proofs.StateLemmas.{survives_then}
use Rattle.mf_store_sql.specs.Queries.{Answers}

-- ---- a query changes nothing, and commits nothing

-- what follows from each answer follows
pub either_way : {A E : Type 0} (r : Result A E) (P : A → Type 0) (Q : E → Type 0) (R : Type 0) → ((a : A) → P a → R)
    → ((e : E) → Q e → R) → IfOk r P → IfErr r Q → R
either_way (Ok a) P Q R on_ok on_err h k = on_ok a h
either_way (Err e) P Q R on_ok on_err h k = on_err e k

pub shown_same : (sql : List ℕ) (params : Row) (old new : State) (rows : List Row)
    → IsPlain (understood old.now.schema sql) → Shown sql params old new rows → new.now ≡ old.now
unfolding Shown
shown_same sql params old new rows plain h = let bare = subst IsPlain h.1.is plain in (rw bare.0 at h.2).3.0.now_is

-- what shows its rows leaves the connection open
pub shown_open : (sql : List ℕ) (params : Row) (old new : State) (rows : List Row) → Shown sql params old new rows
    → IsTrue new.is_open
unfolding Shown
shown_open sql params old new rows h = go h.0.returning h.2
  where
    go : (what : Option Returning) → ShowsRows old new sql h.0 (timed params h.0.formats h.1.now) rows what
        → IsTrue new.is_open
    go None it = it.3.0.is_open
    go (Some what) it = it.1.shown.is_open

fails_same : (old new : State) (cause : Type 0) (e : Error) → (IsTrue old.is_open → old.now ≡ old.committed)
    → IsTrue new.is_open → Fails old new cause e → new.now ≡ old.now
fails_same old new cause e settled live h = (h.3.undone live).0 ∙ sym (settled (h.3.was_open live))

pub refused_same : (sql : List ℕ) (params : Row) (old new : State) (e : Error) → IsPlain (understood old.now.schema sql)
    → (IsTrue old.is_open → old.now ≡ old.committed) → IsTrue new.is_open → FailsToQuery sql params old new e
    → new.now ≡ old.now
unfolding FailsToQuery IsNotRun
refused_same sql params old new e plain settled live (inl (inl h)) = h.1.0.now_is
refused_same sql params old new e plain settled live (inl (inr h)) = fails_same old new ⊥ e settled live h
refused_same sql params old new e plain settled live (inr h) = let bare =
    subst IsPlain h.1.is plain in (rw bare.0 at h.2).3.0.now_is

pub not_run_same : (old new : State) (sql : List ℕ) (params : Row) (e : Error) → (IsTrue old.is_open → old.now
    ≡ old.committed) → IsTrue new.is_open → IsNotRun old new sql params e → IsTrue old.is_open × (new.now ≡ old.now)
unfolding IsNotRun
not_run_same old new sql params e settled live (inl h) = (h.1.0.was_open, h.1.0.now_is)
not_run_same old new sql params e settled live (inr h) = (h.3.was_open live, fails_same old new ⊥ e settled live h)

-- ---- an empty statement was prepared before the text asks

module _ (sql : List ℕ) (params : Row) (old mid new : State) where
  pub answers_prepared : (rows : List Row) → IsUnchanged old mid → Shown sql params mid new rows
      → Answers sql params old.now rows
  answers_prepared rows prepared h =
      let whole : Answers sql params mid.now rows = λ plain unlisted. reads_as sql params mid new mid.now.schema refl
      (command_of (understood mid.now.schema sql)) refl plain unlisted rows h in
      subst (λ d. Answers sql params d rows) prepared.0.now_is whole

  still_plain : IsUnchanged old mid → IsPlain (understood old.now.schema sql) → IsPlain (understood mid.now.schema sql)
  still_plain prepared plain = subst (λ (d : Database). IsPlain (understood d.schema sql)) (sym prepared.0.now_is) plain

  pub same_prepared : {V : Type 0} (items : V → List Row) (r : Result V Error) → IsUnchanged old mid
      → IsPlain (understood old.now.schema sql) → (IsTrue old.is_open → old.now ≡ old.committed) → IsTrue new.is_open
      → IfOk r (λ v. Shown sql params mid new (items v)) → IfErr r (FailsToQuery sql params mid new) → new.now ≡ old.now
  same_prepared items r prepared plain settled live ok err =
      let settled_mid = λ (was : IsTrue mid.is_open). prepared.0.now_is ∙ settled prepared.0.was_open
      ∙ sym prepared.0.committed_is in
      either_way r (λ v. Shown sql params mid new (items v)) (FailsToQuery sql params mid new) (new.now ≡ old.now)
      (λ v h. shown_same sql params mid new (items v) (still_plain prepared plain) h ∙ prepared.0.now_is)
      (λ e h. refused_same sql params mid new e (still_plain prepared plain) settled_mid live h ∙ prepared.0.now_is) ok
      err

  pub crash_prepared : (HasCleanDisk mid → IsUnchanged old mid) → Survives old mid (λ _. ⊥)
      → Survives mid new (CommitsShowing sql params mid) → Survives old new (λ _. IsTrue old.is_open
      × ¬ IsPlain (understood old.now.schema sql))
  crash_prepared prepared first second =
      survives_then old mid new (λ _. ⊥) (CommitsShowing sql params mid) (λ _. IsTrue old.is_open
      × ¬ IsPlain (understood old.now.schema sql)) (λ _ db none. absurd none)
      (λ clean db wrote. let early : HasCleanDisk mid = omega (arith, clean, second.clean) in let it = prepared early in
      (it.0.was_open, λ plain. never_commits sql params mid db (still_plain it plain) wrote)) first second
