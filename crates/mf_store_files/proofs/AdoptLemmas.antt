-- A store over tables that were judged, from the connection as it was before.
use Rattle.std.proofs.Common.{◌≡◌, ◌≢◌, ◌⊎◌, inl, inr, [], ◌∷◌, Option, None, Some, IsTrue, refl, sym, ap, ◌∙◌, subst}
use Rattle.sqlite.specs.Held.{Held, state}
use Rattle.sqlite.specs.Tree.{Trees}
use Rattle.sqlite_trees.specs.declared.store.Store.{Ghosts}
use Rattle.mf_model.specs.Institution.{Institution}
use Rattle.mf_model.specs.Sound.{IsSound}
use Rattle.mf_store_schema.specs.Calls.{IsKeeping, OnlyFaultsShut}
use Rattle.mf_store_schema.specs.Rows.{Lists}
use Rattle.mf_store_schema.specs.Versions.{IsOfVersion, schema_at}
use Rattle.mf_store_schema.specs.Writes.{Holds, HoldsAt}
use Rattle.mf_store_values.specs.Flat.{tables_of}
use Rattle.mf_store_schema.specs.Schemas.{IsUnchangedUnder}
use Rattle.mf_store_schema.specs.Whole.{HaveRowids}
use Rattle.mf_store_schema.specs.declared.versions.Version.{Version}
use Rattle.mf_store_schema.specs.declared.versions.Version.TheVariants.{First}
use Rattle.mf_store_sound.specs.Schemas.{tables_at}
use Rattle.mf_store_sql.specs.Writes.{Serves}
use Rattle.mf_store_schema.specs.Upgraded.{IsKeepingAt}
use Rattle.mf_store.specs.Facts.{KnownStore}
use Rattle.mf_store_noted.specs.Tabled.{HasGoodDisk, IsTabled}
use Rattle.mf_store.specs.Stands.{StandsFor, IsClean, IsOpen, Leaves}
use Rattle.mf_store_files.specs.Versions.{IsTabledAt, IsLeftAt}
use Rattle.sqlite.specs.Effect.{Database}
use Rattle.mf_store_journal.specs.declared.journal.Journal.{Journal}
use Rattle.mf_store_sound.specs.Held.{CanBeOpened, HoldsSoundAt, IsFoundIn, KeepsJournalAt}
use Rattle.mf_store_files.proofs.UpgradedLemmas.{first_or_later, found_none, journal_of, keeps_own}

module _ {S : Type 0} (g : Ghosts S) (v : Version) (old mid : Held S)
    (u : IsUnchangedUnder (IsOfVersion v) (state g old) (state g mid)) where
  module _ (lists : Lists) (live : HasGoodDisk g mid → IsTrue (state g mid).is_open) (rows : HasGoodDisk g mid
      → IsOfVersion v (state g old).now.schema → (held : HoldsSoundAt v (state g old).now.trees)
      → tables_at v held.institution ≡ lists) where
    still_keeps : HasGoodDisk g mid → (i : Institution) → IsTabledAt g v old i → IsKeepingAt v (state g mid)
        (tables_at v i)
    still_keeps clean i was now =
        let before = was.keeps (u.was_open clean now) in
        subst (λ d. Serves (λ _. schema_at v) (HoldsAt v) d (tables_at v i)) (sym (u.same clean now before.schema_is))
        before

    still_journal : HasGoodDisk g mid → (i : Institution) → IsTabledAt g v old i → IsTrue (state g mid).is_open
        → KeepsJournalAt v (state g mid).now.trees i.journal
    still_journal clean i was now =
        let up = u.was_open clean now in
        subst (λ (d : Database). KeepsJournalAt v d.trees i.journal)
        (sym (u.same clean now (was.keeps up).schema_is)) (was.journal up)

    -- what the tables hold of the institution
    held_before : HasGoodDisk g mid → (i : Institution) → IsTabledAt g v old i → IsOfVersion v (state g old).now.schema
        × ((held : HoldsSoundAt v (state g old).now.trees) × (held.institution ≡ i))
    held_before clean i was =
        let up = u.was_open clean (live clean) in
        let before = was.keeps up in (
          before.schema_is,
          (record { institution = i; sound = was.sound; holds = before.holds; keeps = was.journal up }, refl),
        )

    -- the lists read are the rows of the institution that the tables hold
    are_its : HasGoodDisk g mid → (i : Institution) → IsTabledAt g v old i → tables_at v i ≡ lists
    are_its clean i was = let its = held_before clean i was in
        ap (tables_at v) (sym its.1.1) ∙ rows clean its.0 its.1.0

    module _ (new : Held S) (premise : HasGoodDisk g new → HasGoodDisk g mid) where
      module _ (journal : Option Journal) (found : HasGoodDisk g mid → IsOfVersion v (state g old).now.schema
          → (held : HoldsSoundAt v (state g old).now.trees)
          → IsFoundIn (state g old).now.trees journal held.institution.journal)
          (made : v ≡ First → HasGoodDisk g new → (i : Institution) → IsSound i → tables_at First i ≡ lists
          → IsKeepingAt First (state g mid) (tables_at First i) → IsKeeping (state g new) (tables_of i))
          (others : v ≢ First → new ≡ mid) where
        -- the journal that was found is the institution's
        found_its : HasGoodDisk g mid → (i : Institution) → IsTabledAt g v old i
            → IsFoundIn (state g mid).now.trees journal i.journal
        found_its clean i was =
            let its = held_before clean i was in
            let same = u.same clean (live clean) its.0 in
            subst (λ (d : Database). IsFoundIn d.trees journal i.journal) (sym same)
            (subst (λ (k : Institution). IsFoundIn (state g old).now.trees journal k.journal) its.1.1
            (found clean its.0 its.1.0))

        -- tables of the first version, brought to the second
        from_first : v ≡ First → HasGoodDisk g new → (i : Institution) → IsTabledAt g v old i
            → IsTabled g journal new i
        from_first first clean i was =
            let good = premise clean in
            let none = found_none v first (state g mid).now.trees i journal (found_its good i was)
            (still_journal good i was (live good)) in
            let its = subst (λ w. tables_at w i ≡ lists) first (are_its good i was) in
            let keeps = subst (λ w. IsKeepingAt w (state g mid) (tables_at w i)) first (still_keeps good i was) in
            subst (λ j. IsTabled g j new i) (sym none) (record {
              kept = record { sound = was.sound; serves = made first clean i was.sound its keeps };
              keeps = journal_of (state g mid).now.trees i None (subst (λ j. IsFoundIn (state g mid).now.trees j
                  i.journal) none (found_its good i was));
            })

        -- those of the others, as they were
        as_they_were : v ≢ First → HasGoodDisk g mid → (i : Institution) → IsTabledAt g v old i
            → IsTabled g journal mid i
        as_they_were later good i was = record {
          kept = record {
            sound = was.sound;
            serves = keeps_own (state g mid) i v later journal (found_its good i was) (still_keeps good i was)
                (still_journal good i was);
          };
          keeps = journal_of (state g mid).now.trees i journal (found_its good i was);
        }

        pub brought_up : HasGoodDisk g new → (i : Institution) → IsTabledAt g v old i → IsTabled g journal new i
        brought_up clean i was = elim (first_or_later v) [
          | inl first ↦ from_first first clean i was
          | inr later ↦ subst (λ h. IsTabled g journal h i) (sym (others later))
              (as_they_were later (premise clean) i was)
        ]

        module _ (store : KnownStore S) (same : store.connection ≡ new) where
          pub stands_at : ((i : Institution) → IsTabled g journal new i → StandsFor g store i) → IsClean g store
              → (i : Institution) → IsTabledAt g v old i → StandsFor g store i
          stands_at stands clean i was = stands i (brought_up (subst (HasGoodDisk g) same clean) i was)

          pub leaves_at : (IsOpen g store → (i : Institution) → IsTabled g journal new i → Leaves g store (i ∷ []))
              → (HasGoodDisk g new → IsTrue (state g mid).is_open → IsTrue (state g new).is_open) → IsClean g store
              → (i : Institution) → IsTabledAt g v old i → Leaves g store (i ∷ [])
          leaves_at leaves is_live clean i was =
              let good = subst (HasGoodDisk g) same clean in
              leaves (subst (λ h. IsTrue (state g h).is_open) (sym same) (is_live good (live (premise good)))) i
              (brought_up good i was)

      module _ (shuts : OnlyFaultsShut (state g mid) (state g new)) (was_open : HasGoodDisk g new
          → IsTrue (state g new).is_open → IsTrue (state g mid).is_open)
          (unmade : HasGoodDisk g new → IsTrue (state g new).is_open → (state g new).now ≡ (state g mid).now)
          (stop : HasGoodDisk g new → (i : Institution) → IsSound i → tables_at v i ≡ lists
          → IsKeepingAt v (state g mid) (tables_at v i)
          → (trees : Trees) → (state g new).may_leave trees → (state g mid).may_leave trees
          ⊎ ((v ≡ First) × Holds trees (Some (tables_of i))))
          (sound : HasGoodDisk g mid → IsOfVersion v (state g old).now.schema → HaveRowids v (state g old).now.trees
          → CanBeOpened v (state g old).now.trees) where
        pub left_at : IsOfVersion v (state g old).now.schema → IsLeftAt g v old new
        left_at its = record {
          premise = λ clean. u.premise (premise clean);
          was_open = λ clean now. u.was_open (premise clean) (was_open clean now);
          same = λ clean now. unmade clean now ∙ u.same (premise clean) (was_open clean now) its;
          shuts = λ faults few up_to. shuts faults few (u.shuts faults few up_to);
          stop = λ clean i was trees may. elim (stop clean i was.sound (are_its (premise clean) i was)
              (still_keeps (premise clean) i was) trees may) [
                | inl before ↦ inl (u.stop (premise clean) (λ now. its) trees before)
                | inr made ↦ inr made
              ];
          refused = λ clean rowids none_held trees may. absurd (none_held (sound (premise clean) its rowids).held);
        }
