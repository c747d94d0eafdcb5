-- A store over tables that are those of one version alone, or none.
use Rattle.std.proofs.Common.{◌≡◌, ◌≢◌, ◌⊎◌, ℕ, inl, inr, [], ◌∷◌, Option, None, Some, Result, Ok, Err, IfOk, IfErr}
use Rattle.std.proofs.Common.{false, IsTrue, refl, sym, ◌∙◌, subst}
use Rattle.std.specs.Prelude.{IsSome}
use Rattle.mf_base.specs.declared.fault.Fault.{Fault}
use Rattle.mf_base.specs.declared.fault.Fault.TheVariants.{F19, F20}
use Rattle.sqlite.specs.Held.{Held, state}
use Rattle.sqlite.specs.State.{HasCleanDisk}
use Rattle.sqlite_trees.specs.declared.store.Store.{Ghosts}
use Rattle.mf_store_sql.specs.Tables.{no_schema}
use Rattle.mf_store_schema.specs.Schemas.{IsUnchangedUnder}
use Rattle.mf_store_schema.specs.Versions.{IsOfVersion}
use Rattle.mf_store_schema.specs.Whole.{HaveRowids}
use Rattle.mf_store_schema.specs.declared.versions.Version.{Version}
use Rattle.mf_store_schema.specs.declared.versions.Version.TheVariants.{First}
use Rattle.mf_model.specs.Institution.{Institution, newly_made}
use Rattle.mf_store_schema.specs.Rows.{Lists}
use Rattle.mf_store_values.specs.Flat.{tables_of}
use Rattle.mf_journal.specs.Founding.{founding}
use Rattle.mf_store_noted.specs.Kept.{journaled, tables_kept}
use Rattle.mf_store_noted.specs.Tabled.{IsUnfounded, IsUnfoundedAs, IsUnfoundedJournaled}
use Rattle.mf_store_files.specs.declared.adopted.Refused.TheVariants.{NoInstitution, Failed}
use Rattle.mf_store_files.specs.declared.adopted.Unjournaled.{Unjournaled}
use Rattle.mf_store_files.specs.declared.adopted.Unjournaled.TheVariants.{Refused}
use Rattle.mf_store.specs.Facts.{KnownStore}
use Rattle.mf_store.specs.Stands.{StandsFor, IsClean, Leaves, IsOpen}
use Rattle.mf_store_sound.proofs.SchemaLemmas.{none_at, one_version}
use Rattle.mf_store_files.specs.Versions.{IsTabledAt, IsLeftAt}
use Rattle.mf_store_sound.specs.Held.{CanBeOpened}
use Rattle.mf_store_files.specs.Taken.{IsTaken, IsGivenBack}

module _ {S : Type 0} (g : Ghosts S) (h : Held S) where
  abbrev Made : Type 0
  Made = Result (KnownStore S) (Fault × Held S)

  -- ---- tables of a version

  module _ (v : Version) (ours : IsOfVersion v (state g h).now.schema) where
    same_version : (w : Version) → IsOfVersion w (state g h).now.schema → v ≡ w
    same_version w other = one_version v w (sym ours ∙ other)

    -- what is so under the version that there is
    at : (P : Version → Type 0) → P v → (w : Version) → IsOfVersion w (state g h).now.schema → P w
    at P is w other = subst P (same_version w other) is

    tabled : IsTrue (state g h).is_open → (w : Version) (i : Institution) → IsTabledAt g w h i → IsTabledAt g v h i
    tabled live w i was =
        subst (λ x. IsTabledAt g x h i) (sym (same_version w (was.keeps live).schema_is)) was

    pub taken_at : (r : Made)
        → IfOk r (λ store. IsClean g store → HasCleanDisk (state g h))
        → IfOk r (λ store. IsClean g store → IsOfVersion v (state g h).now.schema → HaveRowids v (state g h).now.trees
        → CanBeOpened v (state g h).now.trees)
        → IfOk r (λ store. IsClean g store → (i : Institution) → IsTabledAt g v h i → StandsFor g store i)
        → IfOk r (λ store. IsClean g store → (i : Institution) → IsTabledAt g v h i → Leaves g store (i ∷ []))
        → IfOk r (λ store. IsClean g store → IsTrue (state g h).is_open)
        → IfOk r (λ store. IsClean g store → IsOpen g store)
        → IfOk r (IsTaken g h)
    taken_at (Ok store) premise sound stands leaves was_open is_open = record {
      premise = premise;
      was_open = was_open;
      is_open = is_open;
      sound = λ clean. at (λ w. HaveRowids w (state g h).now.trees → CanBeOpened w (state g h).now.trees)
          (sound clean ours);
      stands = λ clean w i was. stands clean i (tabled (was_open clean) w i was);
      leaves = λ clean w i was. leaves clean i (tabled (was_open clean) w i was);
    }
    taken_at (Err e) premise sound stands leaves was_open is_open = tt

    pub back_at : (r : Made)
        → IfErr r (λ e. HasCleanDisk (state g e.1) → HasCleanDisk (state g h))
        → IfErr r (λ e. (e.0 ≡ F19) ⊎ (e.0 ≡ F20))
        → IfErr r (λ e. e.0 ≡ F19 → HasCleanDisk (state g e.1) → IsOfVersion v (state g h).now.schema
        → ¬ CanBeOpened v (state g h).now.trees)
        → IfErr r (λ e. IsOfVersion v (state g h).now.schema → IsLeftAt g v h e.1)
        → IfErr r (λ e. v ≢ First → IsUnchangedUnder (IsOfVersion v) (state g h) (state g e.1))
        → IfErr r (λ e. e.1.in_transaction ≡ false)
        → IfErr r (λ e. IsGivenBack g h e.1 e.0)
    back_at (Ok store) still errors refused left unchanged alone = tt
    back_at (Err e) still errors refused left unchanged alone = record {
      still = still;
      alone = alone;
      errors = errors;
      unchanged = λ w later other. at (λ x. x ≢ First → IsUnchangedUnder (IsOfVersion x) (state g h) (state g e.1))
          unchanged w other later;
      left = at (λ w. IsLeftAt g w h e.1) (left ours);
      refused = λ told clean. at (λ w. ¬ CanBeOpened w (state g h).now.trees) (refused told clean ours);
      foreign = λ some others. absurd (others (v, ours));
    }

  -- ---- no tables

  module _ (ours : (state g h).now.schema ≡ no_schema) where
    pub taken_none : {E : Type 0} (r : Result (KnownStore S) E)
        → IfOk r (λ store. IsClean g store → HasCleanDisk (state g h))
        → IfOk r (λ store. IsClean g store → IsTrue (state g h).is_open)
        → IfOk r (λ store. IsClean g store → IsOpen g store)
        → IfOk r (IsTaken g h)
    taken_none (Ok store) premise was_open is_open = record {
      premise = premise;
      was_open = was_open;
      is_open = is_open;
      sound = λ clean v is. absurd (none_at v (sym ours ∙ is));
      stands = λ clean v i was. absurd (none_at v (sym ours ∙ (was.keeps (was_open clean)).schema_is));
      leaves = λ clean v i was. absurd (none_at v (sym ours ∙ (was.keeps (was_open clean)).schema_is));
    }
    taken_none (Err e) premise was_open is_open = tt

    pub unmade : (made : Lists) (fault : Fault) (new : Held S) → fault ≡ F20 → IsUnfoundedAs g made h new
        → new.in_transaction ≡ false → IsGivenBack g h new fault
    unmade made fault new gives_up given_back alone = record {
      still = given_back.premise;
      alone = alone;
      errors = inr gives_up;
      unchanged = λ v later is. absurd (none_at v (sym ours ∙ is));
      left = λ v is. absurd (none_at v (sym ours ∙ is));
      refused = λ told clean v is. absurd (none_at v (sym ours ∙ is));
      foreign = λ some. absurd (some ours);
    }

    pub back_none : (day : _) (r : Made)
        → IfErr r (λ e. e.0 ≡ F20)
        → IfErr r (λ e. IsUnfounded g day h e.1)
        → IfErr r (λ e. e.1.in_transaction ≡ false)
        → IfErr r (λ e. IsGivenBack g h e.1 e.0)
    back_none day (Ok store) gives_up given_back alone = tt
    back_none day (Err e) gives_up given_back alone = unmade (tables_of (newly_made day)) e.0 e.1 gives_up given_back
        alone

    -- of a new institution that is to keep a journal
    pub unmade_journaled : (founds : Option ℕ) (r : Result (KnownStore S) (Unjournaled × Held S))
        → IfErr r (λ e. ((e.0 ≡ Refused NoInstitution) × (founds ≡ None) × (e.1 ≡ h))
        ⊎ ((e.0 ≡ Refused (Failed F20)) × IsSome founds
        × ((day : ℕ) → founds ≡ Some day → IsUnfoundedJournaled g day h e.1) × (e.1.in_transaction ≡ false)))
        → IfErr r (λ e. (fault : Fault) → e.0 ≡ Refused (Failed fault) → IsGivenBack g h e.1 fault)
    unmade_journaled founds (Ok store) told = tt
    unmade_journaled founds (Err e) told = of_one founds told
      where
        of_one : (founds : Option ℕ) → ((e.0 ≡ Refused NoInstitution) × (founds ≡ None) × (e.1 ≡ h))
            ⊎ ((e.0 ≡ Refused (Failed F20)) × IsSome founds
            × ((day : ℕ) → founds ≡ Some day → IsUnfoundedJournaled g day h e.1) × (e.1.in_transaction ≡ false))
            → (fault : Fault) → e.0 ≡ Refused (Failed fault) → IsGivenBack g h e.1 fault
        of_one founds (inl none) fault is =
            let both : Refused NoInstitution ≡ Refused (Failed fault) = sym none.0 ∙ is in absurd (cc)
        of_one None (inr made) fault is = let some : IsSome {T = ℕ} None = made.1 in absurd (cc)
        of_one (Some day) (inr made) fault is =
            let both : Refused (Failed F20) ≡ Refused (Failed fault) = sym made.0 ∙ is in
            let same : fault ≡ F20 = cc in
            unmade (tables_kept (Some (founding 3 day)) (journaled (newly_made day))) fault e.1 same (made.2 day refl)
            made.3

-- ---- what holds of each store, or of each failure, holds of the one that there is

pub of_any : {A E : Type 0} (r : Result A E) (P : A → Type 0) → ((x : A) → P x) → IfOk r P
of_any (Ok x) P all = all x
of_any (Err e) P all = tt

pub of_any_error : {A E : Type 0} (r : Result A E) (P : E → Type 0) → ((e : E) → P e) → IfErr r P
of_any_error (Ok x) P all = tt
of_any_error (Err e) P all = all e
